use Rattle.kernel_guarantees.proofs.Settling.{reached_is_settled}
use Rattle.kernel_guarantees.proofs.scheduling.a_preemptive_task_runs_at_best.Goals as goal

pub returns : goal.returns
returns c = λ app s d u reached runs full live. (reached_is_settled app s reached).at_best d runs full u live
