use Rattle.std.proofs.Common.{◌≡◌, ◌+◌, ◌-◌, ◌≤◌, length, slice_set}
use Rattle.std.specs.List.{insert}
use Rattle.abstract_state.proofs.table.ValueSet.put_in.Given as goal

abbrev pub invariant-loop-free : goal.invariant-loop-free
invariant-loop-free l =
    (l.gap ≤ l.free)
    × (l.free ≤ length l.fn.self.members)
    × (length l.self.members ≡ length l.fn.self.members + 1)
    × (slice_set l.self.members l.free l.value ≡ insert l.fn.self.members l.free l.value)
    × (l.self.domain ≡ l.fn.self.domain)

abbrev pub decreases-loop-free : goal.decreases-loop-free
decreases-loop-free l = l.free - l.gap
