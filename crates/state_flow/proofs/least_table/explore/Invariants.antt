use Rattle.std.proofs.Common.{◌≡◌, ◌+◌, ◌-◌, ◌*◌, ℕ}
use Rattle.osek_standard.specs.Counts.{points, height}
use Rattle.state_flow.specs.Numbering.{HasProgress}
use Rattle.state_flow.proofs.least_table.explore.Given as goal

abbrev pub invariant-loop-place : goal.invariant-loop-place
invariant-loop-place g l = (n : ℕ) × (l.steps ≡ l.initial.steps + n) × HasProgress l.app l.numbering.pool l.cells.list.items n × (l.numbering.app.now ≡ l.app)

abbrev pub decreases-loop-place : goal.decreases-loop-place
decreases-loop-place g l = l.initial.steps + (points l.app + points l.app * height l.app) - l.steps
