use Rattle.std.proofs.Common.{ℕ, ◌<◌, ◌≤◌, get_or}
use Rattle.osek_standard.specs.Points.{StandsAt}
use Rattle.numbered_sets.specs.{declared.table.NumberedRow.{NumberedRow}, PlainTables.{plain_row}}
use Rattle.flow_report.specs.Reached.{IsHeldIn}
use Rattle.flow_report.proofs.reached.Reached.is_taken_at.Given as goal

abbrev pub invariant-loop-place : goal.invariant-loop-place
invariant-loop-place l =
    (l.first ≤ l.place) × ((k : ℕ) (d : NumberedRow) → k < l.place → StandsAt (get_or l.self.rows.now k d).point l.block → IsHeldIn l.self.app.now l.resource (plain_row l.self.pool.now (get_or l.self.rows.now k d)) → ⊥)
