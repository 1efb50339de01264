use Rattle.osek_values.specs.Numbers.{mask}
use Rattle.kernel_guarantees.proofs.{EventDeeds.{activation_clears, event_is_cleared, event_is_set, waits_for_events}, Reaching.{reached_is_well}}
use Rattle.kernel_guarantees.proofs.events.accepted_services_set_clear_and_wait.Goals as goal

pub returns : goal.returns
returns c = record {
  sets = λ app s choice t m reached active sets ok. event_is_set app s choice active t m sets ok;
  clears = λ app s choice d m reached runs is ok. event_is_cleared app s (reached_is_well app s reached) choice d runs (mask m) is ok;
  waits = λ app s choice d m reached runs is none ok. waits_for_events app s (reached_is_well app s reached) choice d runs (mask m) is none ok;
  activated = λ app s e t reached off live. activation_clears app s e t (reached_is_well app s reached) off live;
}
