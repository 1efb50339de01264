use Rattle.oil_model.proofs.OneAnswer as law
use Rattle.oil_model.proofs.resolver.one_answer.Goals as goal

pub returns-clause-some : goal.returns-clause-some
returns-clause-some c = λ t. law.some t

pub returns-clause-one : goal.returns-clause-one
returns-clause-one c = λ t a b x y. law.one t a b x y
