use Rattle.osek_values.specs.Numbers.{mask}
use Rattle.kernel_guarantees.proofs.{CallAcceptances.{alarm_sets}, ClockDeeds.{alarm_activates, cancelled_is_idle, counter_counts}, Reaching.{reached_is_well}}
use Rattle.kernel_guarantees.proofs.alarms.alarms_and_counters_do_what_they_say.Goals as goal

pub returns : goal.returns
returns c = record {
  cancels = λ app s choice a reached known active is ok. cancelled_is_idle app s (reached_is_well app s reached) active choice a known is ok;
  counts = λ app s choice k reached active calls counter is. counter_counts app s (reached_is_well app s reached) active choice k calls counter is;
  activates = λ app s choice a t reached active is on act room. alarm_activates app s (reached_is_well app s reached) active choice a t on act room is;
  sets = λ app s choice a t m reached active is on act ext lives. alarm_sets app s choice active a t (mask m) on act ext lives is;
}
