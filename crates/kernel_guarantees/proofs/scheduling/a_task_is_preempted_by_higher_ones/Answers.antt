use Rattle.kernel_guarantees.proofs.Preempting.{preempts}
use Rattle.kernel_guarantees.proofs.scheduling.a_task_is_preempted_by_higher_ones.Goals as goal

pub returns : goal.returns
returns c = λ app s e d x reached p. preempts app s reached e d x p
