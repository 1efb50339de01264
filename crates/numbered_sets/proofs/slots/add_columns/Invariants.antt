use Rattle.std.proofs.Common.{◌≡◌, length}
use Rattle.numbered_sets.specs.Slots.{AreSameNumbers}
use Rattle.numbered_sets.proofs.slots.add_columns.Given as goal

abbrev pub invariant-loop-column : goal.invariant-loop-column
invariant-loop-column l = AreSameNumbers l.initial.columns l.columns × (length l.columns ≡ l._column)
