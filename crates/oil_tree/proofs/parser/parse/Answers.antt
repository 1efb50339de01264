use Rattle.osek_values.proofs.OneAnswer.{answers}
use Rattle.oil_tree.proofs.OneAnswer.{one_answer}
use Rattle.oil_tree.proofs.parser.parse.Goals as goal

pub returns-clause-right : goal.returns-clause-right
returns-clause-right c = c.read.ensures

pub returns-clause-exact : goal.returns-clause-exact
returns-clause-exact c = answers (one_answer c.args.tokens.now) c.read.result c.read.ensures
