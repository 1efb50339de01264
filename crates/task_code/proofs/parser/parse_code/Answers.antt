use Rattle.osek_values.proofs.OneAnswer.{answers}
use Rattle.task_code.proofs.OneAnswer.{one_answer}
use Rattle.task_code.proofs.parser.parse_code.Goals as goal

pub returns-clause-right : goal.returns-clause-right
returns-clause-right c = c.read.ensures.right

pub returns-clause-fit : goal.returns-clause-fit
returns-clause-fit c = c.read.ensures.fit

pub returns-clause-exact : goal.returns-clause-exact
returns-clause-exact c = answers (one_answer c.args.tokens.now) c.read.result c.read.ensures.right
