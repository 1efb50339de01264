use Rattle.std.proofs.Common.{◌≡◌, ◌-◌, []}
use Rattle.image_fields.specs.{Reading.{entries_at}, TableReading.{resource_at}}
use Rattle.image_fields.proofs.table_reading.read_resources.Given as goal

abbrev pub invariant-loop : goal.invariant-loop
invariant-loop l = entries_at (resource_at l.fn.header.version l.tasks) l.resources (l.fn.header.resources - l.counter) l.reader ≡ entries_at (resource_at l.fn.header.version l.tasks) [] l.fn.header.resources l.fn.reader
