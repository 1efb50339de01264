use Rattle.std.proofs.Common.{ℕ, ◌<◌}
use Rattle.numbered_sets.specs.SetLists.{set_of}
use Rattle.numbered_sets.proofs.flat_sets.NumberedSets.is_filled.Given as goal

abbrev pub invariant-loop-component : goal.invariant-loop-component
invariant-loop-component l = (k : ℕ) → k < l.component → 0 < (set_of l.self k).bits
