use Rattle.std.proofs.Common.{ℕ, ◌<◌, get_or}
use Rattle.osek_standard.specs.declared.point.Point.{Point}
use Rattle.flow_check.specs.Staying.{IsIn, end_at}
use Rattle.flow_check.proofs.staying.all_at.Given as goal

abbrev pub invariant-loop-point : goal.invariant-loop-point
invariant-loop-point l = (k : ℕ) (d : Point) → k < l.point-index → IsIn l.rows (end_at (get_or l.points k d) l.entry)
