use Rattle.std.proofs.Common.{arith}
use Rattle.flow_check.proofs.RowOutcomes.{stands_known}
use Rattle.flow_check.proofs.outcomes.FoundInRowsRowFold.add.Goals as goal

pub add_exits-requires : goal.add_exits-requires
add_exits-requires c = λ b stands. omega (arith, stands_known c.args._app.now c.args.point b c.requires.point stands, c.requires.so_far.is.count)

pub returns : goal.returns
returns c = λ rows row at next found. c.add_exits.ensures c.args._app.now rows row at next.are found
