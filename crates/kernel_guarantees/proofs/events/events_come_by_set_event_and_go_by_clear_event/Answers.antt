use Rattle.kernel_guarantees.proofs.{EventReleases.{step_sets}, Reaching.{reached_is_well}}
use Rattle.kernel_guarantees.proofs.events.events_come_by_set_event_and_go_by_clear_event.Goals as goal

pub returns : goal.returns
returns c = record {
  comes = λ app s e t i reached. (step_sets app s t e (reached_is_well app s reached)).comes i;
  goes = λ app s e t i reached. (step_sets app s t e (reached_is_well app s reached)).goes i;
}
