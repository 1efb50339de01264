use Rattle.std.proofs.Common.{◌<◌, arith}
use Rattle.osek_standard.specs.Well.{IsWaitingAt}
use Rattle.table_codec.proofs.FieldReads.{test_barred}
use Rattle.table_codec.proofs.values.waiting_block.Goals as goal

pub returns-else-waits_at-clause-err : goal.returns-else-waits_at-clause-err
returns-else-waits_at-clause-err c =
    let word : c.in-Some.block < 65536 = omega arith in
    test_barred 1 (IsWaitingAt c.args.app.now c.args.task.0) c.args.reader.now c.number_16.new.self c.in-Some.block c.left-left.result c.fault-else-waits_at.result c.waits_at.result word c.in-Some.ensures.number c.waits_at.ensures
    c.if-waits_at.false c.left-left.ensures c.fault-else-waits_at.ensures
