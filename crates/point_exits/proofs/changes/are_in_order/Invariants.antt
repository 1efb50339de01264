use Rattle.std.proofs.Common.{◌<◌, ℕ, get_or}
use Rattle.flow_model.specs.declared.change.Change.{Change}
use Rattle.point_exits.proofs.changes.are_in_order.Given as goal

abbrev pub invariant-loop-place : goal.invariant-loop-place
invariant-loop-place l = (j k : ℕ) (d : Change) → j < k → k < l.place → (get_or l.changes j d).component.0 < (get_or l.changes k d).component.0
