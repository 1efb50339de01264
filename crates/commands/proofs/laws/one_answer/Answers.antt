use Rattle.commands.proofs.{OneDue.{one_due}, SomeDue.{some_due}}
use Rattle.commands.proofs.laws.one_answer.Goals as goal

pub returns-clause-some : goal.returns-clause-some
returns-clause-some c = λ files command hold other. some_due files hold command other

pub returns-clause-one : goal.returns-clause-one
returns-clause-one c = λ files command a b x y. one_due files command a b x y
