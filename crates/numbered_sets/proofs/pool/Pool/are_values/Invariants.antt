use Rattle.std.proofs.Common.{ℕ, ◌<◌, get_or}
use Rattle.numbered_sets.specs.Pools.{Values, AreValues}
use Rattle.numbered_sets.proofs.pool.Pool.are_values.Given as goal

abbrev pub invariant-loop-seen : goal.invariant-loop-seen
invariant-loop-seen l = (k : ℕ) (d : Values) → k < l.seen-index → AreValues (get_or l.seen-items k d)
