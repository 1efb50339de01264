use Rattle.std.proofs.{Common.{[]}, lemmas.Result.{err_from_is_err_and}}
use Rattle.image_fields.specs.{Reading.{entries_at}, TableReading.{isr_at}}
use Rattle.image_fields.proofs.Loop.{goes_on, ends, is_done}
use Rattle.image_fields.proofs.table_reading.read_isrs.Goals as goal

pub returns-in_err-isr : goal.returns-in_err-isr
returns-in_err-isr c =
    let p = err_from_is_err_and c.from_residual.result c.from_residual.ensures.1 in
    rw (p.1, p.2) (ends (isr_at c.args.header c.args.tasks.now) c.loop.isrs (entries_at (isr_at c.args.header c.args.tasks.now) [] c.args.header.isrs c.args.reader.now) c.in_err-isr.field-0.0 c.args.header.isrs c.loop.counter c.loop.reader c.loop-test.true (rw c.as_slice.ensures at c.in_err-isr.ensures) c.loop.invariant)

pub loop-preserved : goal.loop-preserved
loop-preserved c =
    rw c.in_ok-push.ensures.ok
    (goes_on (isr_at c.args.header c.args.tasks.now) c.loop.isrs (entries_at (isr_at c.args.header c.args.tasks.now) [] c.args.header.isrs c.args.reader.now) c.args.header.isrs c.loop.counter c.loop.reader c.in_ok-isr.isr _ c.loop-test.true (rw c.as_slice.ensures at c.in_ok-isr.ensures) c.loop.invariant)

pub returns : goal.returns
returns c = is_done (isr_at c.args.header c.args.tasks.now) c.loop.isrs (entries_at (isr_at c.args.header c.args.tasks.now) [] c.args.header.isrs c.args.reader.now) c.args.header.isrs c.loop.counter c.loop.reader c.loop-test.false c.loop.invariant
