use Rattle.std.proofs.Common.{◌<◌, arith}
use Rattle.table_codec.specs.SourceShapes.{IsSourceTag}
use Rattle.table_codec.proofs.FieldReads.{test_barred}
use Rattle.table_codec.proofs.source_values.tag.Goals as goal

pub returns-else-may_be-clause-err : goal.returns-else-may_be-clause-err
returns-else-may_be-clause-err c =
    let byte : c.in-Some.tag < 256 = omega arith in
    test_barred 0 (IsSourceTag c.args.shape.now) c.args.reader.now c.byte.new.self c.in-Some.tag c.left-left.result c.fault-else-may_be.result c.may_be.result byte c.in-Some.ensures.number c.may_be.ensures c.if-may_be.false
    c.left-left.ensures c.fault-else-may_be.ensures
