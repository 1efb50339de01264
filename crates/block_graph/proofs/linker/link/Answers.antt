use Rattle.osek_values.proofs.OneAnswer.{answers}
use Rattle.block_graph.proofs.OneAnswer.{one}
use Rattle.block_graph.proofs.linker.link.Goals as goal

pub returns-clause-right : goal.returns-clause-right
returns-clause-right c = c.answer.ensures

pub returns-clause-exact : goal.returns-clause-exact
returns-clause-exact c = answers (one c.args.system c.args.code.now) c.answer.result c.answer.ensures
