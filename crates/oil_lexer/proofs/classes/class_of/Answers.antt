-- a byte that begins nothing
use Rattle.std.proofs.{Common.{arith}, lemmas.Grind.{common_steps}}
use Rattle.oil_lexer.proofs.classes.class_of.Goals as goal

pub returns-in-None : goal.returns-in-None
returns-in-None c = grind (arith, common_steps)
