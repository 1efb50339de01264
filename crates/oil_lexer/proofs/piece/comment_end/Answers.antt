-- a comment that isn't closed
use Rattle.std.proofs.{Common.{arith}, lemmas.Grind.{common_steps}}
use Rattle.oil_lexer.proofs.piece.comment_end.Goals as goal

pub returns-in-None : goal.returns-in-None
returns-in-None c = grind (arith, common_steps)
