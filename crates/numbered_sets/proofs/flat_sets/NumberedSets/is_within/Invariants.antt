use Rattle.std.proofs.Common.{ℕ, ◌<◌, IsTrue}
use Rattle.numbered_sets.specs.{Numbers.{has_number}, SetLists.{set_of}}
use Rattle.numbered_sets.proofs.flat_sets.NumberedSets.is_within.Given as goal

abbrev pub invariant-loop-component : goal.invariant-loop-component
invariant-loop-component l = (k n : ℕ) → k < l.component → IsTrue (has_number (set_of l.self k) n) → IsTrue (has_number (set_of l.other k) n)
