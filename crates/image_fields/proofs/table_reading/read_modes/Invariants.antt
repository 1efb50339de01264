use Rattle.std.proofs.Common.{◌≡◌, ◌-◌, []}
use Rattle.image_fields.specs.Reading.{name_at, entries_at}
use Rattle.image_fields.proofs.table_reading.read_modes.Given as goal

abbrev pub invariant-loop : goal.invariant-loop
invariant-loop l = entries_at (name_at) l.modes (l.fn.header.modes - l.counter) l.reader ≡ entries_at (name_at) [] l.fn.header.modes l.fn.reader
