use Rattle.kernel_guarantees.proofs.{Stacked.{one_of_a_priority}, StackedSteps.{reached_is_stacked}}
use Rattle.kernel_guarantees.proofs.inversion.who_began_waits_for_higher_tasks.Goals as goal

pub returns : goal.returns
returns c = record {
  waits = λ app s d u reached. (reached_is_stacked app s reached).below d u;
  one_of_a_priority = λ app s t u reached. one_of_a_priority app s (reached_is_stacked app s reached) t u;
  stacked = λ app s reached. reached_is_stacked app s reached;
}
