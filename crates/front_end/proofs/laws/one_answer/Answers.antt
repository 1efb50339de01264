use Rattle.front_end.proofs.{OneAnswer.{one_oil, one_code}, SomeAnswer.{some_oil, declared_is_linkable, some_code}}
use Rattle.front_end.proofs.laws.one_answer.Goals as goal

pub returns-clause-some_system : goal.returns-clause-some_system
returns-clause-some_system c = some_oil

pub returns-clause-one_system : goal.returns-clause-one_system
returns-clause-one_system c = one_oil

pub returns-clause-linkable : goal.returns-clause-linkable
returns-clause-linkable c = declared_is_linkable

pub returns-clause-some_app : goal.returns-clause-some_app
returns-clause-some_app c = some_code

pub returns-clause-one_app : goal.returns-clause-one_app
returns-clause-one_app c = one_code
