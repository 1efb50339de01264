use Rattle.kernel_guarantees.proofs.Delays.{one_delays, runs_raised, was_raised}
use Rattle.kernel_guarantees.proofs.inversion.one_lower_task_delays_a_ready_one.Goals as goal

pub returns : goal.returns
returns c = record {
  one = λ app s es t a b reached ready now under later below. one_delays app t s es a b reached ready now under later below;
  at_first = λ app s es t b reached ready later below. was_raised app t s es b reached ready later;
  raised = λ app s d t reached runs live. runs_raised app s d t reached runs live;
}
