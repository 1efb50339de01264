use Rattle.std.proofs.Common.{⊎_elim, Ok, Err}
use Rattle.oil_tree.proofs.{OneAnswer.{one_answer}, Prefixes.{some_answer}}
use Rattle.oil_tree.proofs.parser.one_answer.Goals as goal

pub returns-clause-some : goal.returns-clause-some
returns-clause-some c = λ tokens. ⊎_elim (λ x. (Ok x.0, x.1)) (λ x. (Err x.0, x.1)) (some_answer tokens)

pub returns-clause-one : goal.returns-clause-one
returns-clause-one c = one_answer
