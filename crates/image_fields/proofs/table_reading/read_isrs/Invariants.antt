use Rattle.std.proofs.Common.{◌≡◌, ◌-◌, []}
use Rattle.image_fields.specs.{Reading.{entries_at}, TableReading.{isr_at}}
use Rattle.image_fields.proofs.table_reading.read_isrs.Given as goal

abbrev pub invariant-loop : goal.invariant-loop
invariant-loop l = entries_at (isr_at l.header l.tasks) l.isrs (l.header.isrs - l.counter) l.reader ≡ entries_at (isr_at l.header l.tasks) [] l.header.isrs l.fn.reader
