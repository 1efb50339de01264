use Rattle.osek_values.proofs.OneAnswer.{answers}
use Rattle.front_end.proofs.OneAnswer.{one_code}
use Rattle.front_end.proofs.code_text.read_app.Goals as goal

pub returns-clause-exact : goal.returns-clause-exact
returns-clause-exact c = answers (one_code c.args.system c.args.text.now) c.read.result c.read.ensures
