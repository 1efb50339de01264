use Rattle.kernel_guarantees.proofs.{AlarmRuns.{step_counter}, Reaching.{reached_is_well}}
use Rattle.kernel_guarantees.proofs.alarms.counters_count_one_tick_at_a_time.Goals as goal

pub returns : goal.returns
returns c = λ app s e n reached. step_counter app s e n (reached_is_well app s reached)
