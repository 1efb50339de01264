use Rattle.osek_values.specs.Numbers.{mask}
use Rattle.kernel_guarantees.proofs.CallRefusals.{access_above_is_refused, activation_is_refused, activation_is_taken, event_is_taken}
use Rattle.kernel_guarantees.proofs.errors.services_are_refused_for_a_reason.Goals as goal

pub returns : goal.returns
returns c = record {
  activates = λ app s choice t reached active is free. activation_is_taken app s choice active t is free;
  full = λ app s choice t reached active is full. activation_is_refused app s choice active t is full;
  sets = λ app s choice t m reached active is ext on. event_is_taken app s choice active t (mask m) is ext on;
  above = λ app s choice x r reached active mine is above. access_above_is_refused app s choice active x r mine is above;
}
