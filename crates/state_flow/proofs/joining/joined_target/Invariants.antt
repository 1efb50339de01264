-- the ends so far are at one point, and have numbers of the entry
use Rattle.std.proofs.Common.{◌≡◌, ℕ, ◌<◌, get_or}
use Rattle.point_exits.specs.declared.group.NumberEnd.{NumberEnd}
use Rattle.state_flow.specs.ExitRows.{IsPart}
use Rattle.state_flow.proofs.joining.joined_target.Given as goal

abbrev pub invariant-loop-end : goal.invariant-loop-end
invariant-loop-end l = (j : ℕ) (d : NumberEnd) → j < l.end-index → ((get_or l.ends j d).target ≡ l.target) × IsPart l.entry (get_or l.ends j d)
