use Rattle.std.proofs.Common.{arith}
use Rattle.bit_words.proofs.CursorLaws.{stepped}
use Rattle.bit_words.proofs.bit_cursor.BitCursor.step.Goals as goal

pub returns-clause-step : goal.returns-clause-step
returns-clause-step c = λ bits from before. stepped bits from c.args.self.now before c.requires.some (omega (arith, c.fits-self.1))
