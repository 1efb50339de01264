use Rattle.std.proofs.Common.{◌≡◌, ◌-◌, []}
use Rattle.image_fields.specs.{Reading.{entries_at}, TableReading.{task_at}}
use Rattle.image_fields.proofs.table_reading.read_tasks.Given as goal

abbrev pub invariant-loop : goal.invariant-loop
invariant-loop l = entries_at (task_at l.header) l.tasks (l.header.tasks - l.counter) l.reader ≡ entries_at (task_at l.header) [] l.header.tasks l.fn.reader
