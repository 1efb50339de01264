use Rattle.std.proofs.{Common.{[]}, lemmas.Result.{err_from_is_err_and}}
use Rattle.image_fields.specs.{Reading.{entries_at}, TableReading.{task_at}}
use Rattle.image_fields.proofs.Loop.{goes_on, ends, is_done}
use Rattle.image_fields.proofs.table_reading.read_tasks.Goals as goal

pub returns-in_err-task : goal.returns-in_err-task
returns-in_err-task c =
    let p = err_from_is_err_and c.from_residual.result c.from_residual.ensures.1 in
    rw (p.1, p.2) (ends (task_at c.args.header) c.loop.tasks (entries_at (task_at c.args.header) [] c.args.header.tasks c.args.reader.now) c.in_err-task.field-0.0 c.args.header.tasks c.loop.counter c.loop.reader c.loop-test.true (rw c.as_slice.ensures at c.in_err-task.ensures) c.loop.invariant)

pub loop-preserved : goal.loop-preserved
loop-preserved c =
    rw c.in_ok-push.ensures.ok
    (goes_on (task_at c.args.header) c.loop.tasks (entries_at (task_at c.args.header) [] c.args.header.tasks c.args.reader.now) c.args.header.tasks c.loop.counter c.loop.reader c.in_ok-task.task _ c.loop-test.true (rw c.as_slice.ensures at c.in_ok-task.ensures) c.loop.invariant)

pub returns : goal.returns
returns c = is_done (task_at c.args.header) c.loop.tasks (entries_at (task_at c.args.header) [] c.args.header.tasks c.args.reader.now) c.args.header.tasks c.loop.counter c.loop.reader c.loop-test.false c.loop.invariant
