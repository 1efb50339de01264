use Rattle.osek_values.proofs.OneAnswer.{answers}
use Rattle.oil_model.proofs.OneAnswer.{one}
use Rattle.oil_model.proofs.resolver.resolve.Goals as goal

pub returns-clause-right : goal.returns-clause-right
returns-clause-right c = c.answer.ensures.right

pub returns-clause-exact : goal.returns-clause-exact
returns-clause-exact c = answers (one c.args.tree.now) c.answer.result c.answer.ensures.right
