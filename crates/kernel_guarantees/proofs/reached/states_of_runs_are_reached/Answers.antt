use Rattle.kernel_guarantees.proofs.Reaching.{reached_is_well, run_is_reached, step_is_reached}
use Rattle.kernel_guarantees.proofs.reached.states_of_runs_are_reached.Goals as goal

pub returns : goal.returns
returns c = record {
  run = λ app mode events known. run_is_reached app mode events known;
  step = λ app s e r. step_is_reached app s e r;
  well = λ app s r. reached_is_well app s r;
}
