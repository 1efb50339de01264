use Rattle.std.proofs.Common.{◌<◌, ◌≤◌, arith}
use Rattle.table_codec.proofs.FieldReads.{number_barred}
use Rattle.table_codec.proofs.values.at_most.Goals as goal

pub returns-else-number-most-clause-err : goal.returns-else-number-most-clause-err
returns-else-number-most-clause-err c =
    let byte : c.in-Some.number < 256 = omega arith in
    number_barred 2 (λ n. n ≤ c.args.most) c.args.reader.now c.byte.new.self c.in-Some.number c.left-left.result c.fault-else-number-most.result byte c.in-Some.ensures.number (λ may. omega (arith, may, c.if-number-most.false))
    c.left-left.ensures c.fault-else-number-most.ensures
