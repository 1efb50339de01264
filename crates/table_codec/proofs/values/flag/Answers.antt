use Rattle.std.proofs.Common.{◌<◌, arith}
use Rattle.table_codec.specs.Shapes.{IsFlag}
use Rattle.table_codec.proofs.{FieldReads.{test_barred}, ShapeLaws.{flag_read}}
use Rattle.table_codec.proofs.values.flag.Goals as goal

pub returns-else-may_be_flag-clause-err : goal.returns-else-may_be_flag-clause-err
returns-else-may_be_flag-clause-err c =
    let byte : c.in-Some.number < 256 = omega arith in
    test_barred 3 (IsFlag c.args.shape.now) c.args.reader.now c.byte.new.self c.in-Some.number c.left-left.result c.fault-else-may_be_flag.result c.may_be_flag.result byte c.in-Some.ensures.number c.may_be_flag.ensures c.if-may_be_flag.false
    c.left-left.ensures c.fault-else-may_be_flag.ensures

pub returns-then-may_be_flag-clause-ok : goal.returns-then-may_be_flag-clause-ok
returns-then-may_be_flag-clause-ok c = flag_read c.args.shape.now c.in-Some.number c.args.reader.now c.byte.new.self (c.may_be_flag.ensures.0 c.if-may_be_flag.true) c.in-Some.ensures.number
