use Rattle.std.proofs.Common.{◌≡◌, ℕ, ◌<◌, false, get_or}
use Rattle.flow_exits.specs.{Claims.{limit_of}, Needs.{is_too_low}}
use Rattle.point_exits.proofs.contest.are_met.Given as goal

abbrev pub invariant-loop-task : goal.invariant-loop-task
invariant-loop-task l = (u : ℕ) → u < l.task → is_too_low (limit_of l.claim u) (get_or l.needs u 0) ≡ false
