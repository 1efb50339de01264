use Rattle.std.proofs.Common.{◌≡◌, ℕ, ◌<◌, get_or}
use Rattle.point_exits.specs.{declared.group.NumberEnd.{NumberEnd}, Groups.{with_end}}
use Rattle.flow_check.specs.Staying.{IsIn, end_at}
use Rattle.flow_check.proofs.staying.all_with.Given as goal

abbrev pub invariant-loop-end : goal.invariant-loop-end
invariant-loop-end l = record {
  same : l.held ≡ l.fn.entry;
  each : (k : ℕ) (d : NumberEnd) → k < l.end-index → (let x = get_or l.ends k d in IsIn l.rows (end_at x.target (with_end l.fn.entry x)));
}
