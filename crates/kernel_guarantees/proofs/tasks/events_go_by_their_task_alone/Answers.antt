use Rattle.kernel_guarantees.proofs.{EventMoves.{step_follows}, Reaching.{reached_is_well}}
use Rattle.kernel_guarantees.proofs.tasks.events_go_by_their_task_alone.Goals as goal

pub returns : goal.returns
returns c = λ app s e u reached beside going. (step_follows app s u beside e (reached_is_well app s reached)).keeps going
