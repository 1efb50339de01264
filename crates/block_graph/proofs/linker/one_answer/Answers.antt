use Rattle.block_graph.proofs.{OneAnswer.{one}, SomeAnswer.{some}}
use Rattle.block_graph.proofs.linker.one_answer.Goals as goal

pub returns-clause-some : goal.returns-clause-some
returns-clause-some c = λ s code linkable fit. some s code linkable fit

pub returns-clause-one : goal.returns-clause-one
returns-clause-one c = λ s code a b x y. one s code a b x y
