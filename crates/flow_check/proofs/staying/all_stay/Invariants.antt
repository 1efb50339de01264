use Rattle.std.proofs.Common.{ℕ, ◌<◌, get_or}
use Rattle.point_exits.specs.declared.group.ExitGroup.{ExitGroup}
use Rattle.flow_check.specs.Staying.{AreEndsIn, ends_by}
use Rattle.flow_check.proofs.staying.all_stay.Given as goal

abbrev pub invariant-loop-group : goal.invariant-loop-group
invariant-loop-group l = (k : ℕ) (d : ExitGroup) → k < l.group-index → AreEndsIn l.rows (ends_by (get_or l.groups k d).entry (get_or l.groups k d).ends)
