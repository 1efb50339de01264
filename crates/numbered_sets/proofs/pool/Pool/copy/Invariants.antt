use Rattle.std.proofs.Common.{◌≡◌, take}
use Rattle.numbered_sets.proofs.pool.Pool.copy.Given as goal

abbrev pub invariant-loop-seen : goal.invariant-loop-seen
invariant-loop-seen l = l.components ≡ take l.seen-index l.seen-items
