use Rattle.std.proofs.Common.{◌<◌, arith}
use Rattle.table_codec.specs.Values.{IsTag}
use Rattle.table_codec.proofs.FieldReads.{test_barred}
use Rattle.table_codec.proofs.values.tag.Goals as goal

pub returns-else-may_stand-clause-err : goal.returns-else-may_stand-clause-err
returns-else-may_stand-clause-err c =
    let byte : c.in-Some.tag < 256 = omega arith in
    test_barred 0 (IsTag c.args.shape.now) c.args.reader.now c.byte.new.self c.in-Some.tag c.left-left.result c.fault-else-may_stand.result c.may_stand.result byte c.in-Some.ensures.number c.may_stand.ensures c.if-may_stand.false
    c.left-left.ensures c.fault-else-may_stand.ensures
