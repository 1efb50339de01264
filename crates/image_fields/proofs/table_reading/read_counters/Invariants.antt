use Rattle.std.proofs.Common.{◌≡◌, ◌-◌, [], length}
use Rattle.image_fields.specs.{Reading.{entries_at}, TableReading.{counter_at}}
use Rattle.image_fields.proofs.table_reading.read_counters.Given as goal

abbrev pub invariant-loop : goal.invariant-loop
invariant-loop l = record { count : length l.counters ≡ l.counter; reads : entries_at (counter_at l.header l.tasks l.isrs) l.counters (l.header.counters - l.counter) l.reader ≡ entries_at (counter_at l.header l.tasks l.isrs) [] l.header.counters l.fn.reader }
