use Rattle.std.proofs.Common.{◌≡◌, ◌<◌, ℕ, false, get_or}
use Rattle.flow_model.specs.Scheduling.{has_it_after}
use Rattle.point_exits.specs.declared.insides.Insides.{Insides}
use Rattle.point_exits.proofs.settled.Settling.entering.Given as goal

abbrev pub invariant-loop-place : goal.invariant-loop-place
invariant-loop-place l = (i : ℕ) (e : Insides) → i < l.place → has_it_after l.self.app.now l.self.stay l.decision (get_or l.self.levels.now.insides i e).task.0 ≡ false
