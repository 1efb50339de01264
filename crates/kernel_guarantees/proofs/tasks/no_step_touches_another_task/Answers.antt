use Rattle.kernel_guarantees.proofs.{TaskMoves.{step_leaves}, Reaching.{reached_is_well}}
use Rattle.kernel_guarantees.proofs.tasks.no_step_touches_another_task.Goals as goal

pub returns : goal.returns
returns c = λ app s e u reached beside. step_leaves app s u beside e (reached_is_well app s reached)
