use Rattle.std.proofs.Common.{◌≡◌, ◌-◌, []}
use Rattle.image_fields.specs.{Reading.{entries_at}, TableReading.{alarm_at}}
use Rattle.image_fields.proofs.table_reading.read_alarms.Given as goal

abbrev pub invariant-loop : goal.invariant-loop
invariant-loop l = entries_at (alarm_at l.header l.counters) l.alarms (l.header.alarms - l.counter) l.reader ≡ entries_at (alarm_at l.header l.counters) [] l.header.alarms l.fn.reader
