use Rattle.kernel_guarantees.proofs.{EventReleases.{step_sets}, EventWakes.{frees}, Reaching.{reached_is_well}}
use Rattle.kernel_guarantees.proofs.events.a_waiting_task_is_released_by_what_it_waits_for.Goals as goal

pub returns : goal.returns
returns c = record {
  only = λ app s e t b reached. (step_sets app s t e (reached_is_well app s reached)).released b;
  always = λ app s t m b choice reached waits active. frees app s (reached_is_well app s reached) choice active t b waits m;
}
