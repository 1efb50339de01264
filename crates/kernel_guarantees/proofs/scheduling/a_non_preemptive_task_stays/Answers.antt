use Rattle.kernel_guarantees.proofs.{NonPreemptive.{stays_at_processor}, Reaching.{reached_is_well}}
use Rattle.kernel_guarantees.proofs.scheduling.a_non_preemptive_task_stays.Goals as goal

pub returns : goal.returns
returns c = λ app s e d reached now non stays. stays_at_processor app s d now non stays e (reached_is_well app s reached)
