use Rattle.std.proofs.Common.{◌<◌, arith}
use Rattle.osek_standard.specs.Validity.{IsAmong}
use Rattle.table_codec.proofs.FieldReads.{number_barred}
use Rattle.table_codec.proofs.values.block_among.Goals as goal
use Rattle.table_codec.proofs.values.block_among.Goals.{else-block-first-via-then-block-first+else-block-first-2, else-block-first-via-else-block-first}

pub returns-else-block-first-clause-err : goal.returns-else-block-first-clause-err
returns-else-block-first-clause-err c =
    let word : c.in-Some.block < 65536 = omega arith in
    let bars : IsAmong c.in-Some.block c.args.first.0 c.args.count → ⊥ = elim c.else-block-first.branch [
      | else-block-first-via-then-block-first+else-block-first-2 w ↦ λ may. omega (arith, may.1, w.if-block-first-2.false)
      | else-block-first-via-else-block-first w ↦ λ may. omega (arith, may.0, w.if-block-first.false)
    ] in
    number_barred 1 (λ n. IsAmong n c.args.first.0 c.args.count) c.args.reader.now c.number_16.new.self c.in-Some.block c.left-left.result c.fault-else-block-first.result word c.in-Some.ensures.number bars
    c.left-left.ensures c.fault-else-block-first.ensures
