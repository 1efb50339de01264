-- the ends so far have numbers of the first one's component
use Rattle.std.proofs.Common.{◌≡◌, ℕ, ◌<◌, get_or}
use Rattle.point_exits.specs.declared.group.NumberEnd.{NumberEnd}
use Rattle.state_flow.proofs.joining.are_of_one.Given as goal

abbrev pub invariant-loop-end : goal.invariant-loop-end
invariant-loop-end l = (j : ℕ) (d : NumberEnd) → j < l.end-index → (get_or l.ends j d).component ≡ (get_or l.ends 0 d).component
