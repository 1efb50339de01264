use Rattle.std.proofs.{Common.{◌∙◌, ◌+◌, ap, length, []}, lemmas.{List.{length_push}, Result.{err_from_is_err_and}}}
use Rattle.image_fields.specs.{Reading.{entries_at}, TableReading.{counter_at}}
use Rattle.image_fields.proofs.Loop.{goes_on, ends, is_done}
use Rattle.image_fields.proofs.table_reading.read_counters.Goals as goal

pub returns-in_err-counter-clause-gives : goal.returns-in_err-counter-clause-gives
returns-in_err-counter-clause-gives c =
    let p = err_from_is_err_and c.from_residual.result c.from_residual.ensures.1 in
    rw (p.1, p.2) (ends (counter_at c.args.header c.args.tasks.now c.args.isrs.now) c.loop.counters (entries_at (counter_at c.args.header c.args.tasks.now c.args.isrs.now) [] c.args.header.counters c.args.reader.now) c.in_err-counter.field-0.0 c.args.header.counters c.loop.counter c.loop.reader c.loop-test.true (rw c.as_slice.ensures at c.in_err-counter.ensures) c.loop.invariant.reads)

pub loop-preserved : goal.loop-preserved
loop-preserved c = record {
  count = ap length c.in_ok-push.ensures.ok ∙ length_push _ _ ∙ ap (λ n. n + 1) c.loop.invariant.count;
  reads = rw c.in_ok-push.ensures.ok
      (goes_on (counter_at c.args.header c.args.tasks.now c.args.isrs.now) c.loop.counters (entries_at (counter_at c.args.header c.args.tasks.now c.args.isrs.now) [] c.args.header.counters c.args.reader.now) c.args.header.counters c.loop.counter c.loop.reader c.in_ok-counter.counter _ c.loop-test.true (rw c.as_slice.ensures at c.in_ok-counter.ensures) c.loop.invariant.reads);
}

pub returns-clause-gives : goal.returns-clause-gives
returns-clause-gives c = is_done (counter_at c.args.header c.args.tasks.now c.args.isrs.now) c.loop.counters (entries_at (counter_at c.args.header c.args.tasks.now c.args.isrs.now) [] c.args.header.counters c.args.reader.now) c.args.header.counters c.loop.counter c.loop.reader c.loop-test.false c.loop.invariant.reads
