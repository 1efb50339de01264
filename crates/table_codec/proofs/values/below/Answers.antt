use Rattle.std.proofs.Common.{◌<◌, arith}
use Rattle.table_codec.proofs.FieldReads.{number_barred}
use Rattle.table_codec.proofs.values.below.Goals as goal

pub returns-else-number-limit-clause-err : goal.returns-else-number-limit-clause-err
returns-else-number-limit-clause-err c =
    let byte : c.in-Some.number < 256 = omega arith in
    number_barred 2 (λ n. n < c.args.limit) c.args.reader.now c.byte.new.self c.in-Some.number c.left-left.result c.fault-else-number-limit.result byte c.in-Some.ensures.number (λ may. omega (arith, may, c.if-number-limit.false))
    c.left-left.ensures c.fault-else-number-limit.ensures
