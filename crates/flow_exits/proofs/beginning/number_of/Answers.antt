use Rattle.std.proofs.Common.{arith}
use Rattle.flow_exits.proofs.SourceNumbers.{number_few, number_behind}
use Rattle.flow_exits.proofs.beginning.number_of.Goals as goal

pub overflow_add-result : goal.overflow_add-result
overflow_add-result c = omega (arith, number_few c.args.app.now c.args.source.0 c.requires.known, number_behind c.args.app.now c.args.source.0, c.requires.first)

pub returns : goal.returns
returns c = omega (arith, number_behind c.args.app.now c.args.source.0, c.requires.first)
