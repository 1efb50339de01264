use Rattle.std.proofs.Common.{ℕ, ◌≡◌, length, get_or}
use Rattle.numbered_sets.specs.Slots.{none}
use Rattle.numbered_sets.proofs.column.Column.widen.Given as goal

abbrev pub invariant-loop-row : goal.invariant-loop-row
invariant-loop-row l = ((row : ℕ) → get_or l.self-inside.numbers.items row none ≡ get_or l.initial.self-inside.numbers.items row none) × (length l.self-inside.numbers.items ≡ l._row)
