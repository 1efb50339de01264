use Rattle.osek_values.proofs.OneAnswer.{answers}
use Rattle.front_end.proofs.OneAnswer.{one_oil}
use Rattle.front_end.proofs.oil_text.read_system.Goals as goal

pub returns-clause-exact : goal.returns-clause-exact
returns-clause-exact c = answers (one_oil c.args.text.now) c.read.result c.read.ensures.right
