use Rattle.kernel_guarantees.proofs.Preempting.{changes_at_points}
use Rattle.kernel_guarantees.proofs.scheduling.tasks_change_at_points_of_rescheduling.Goals as goal

pub returns : goal.returns
returns c = λ app s e reached changed. changes_at_points app s reached e changed
