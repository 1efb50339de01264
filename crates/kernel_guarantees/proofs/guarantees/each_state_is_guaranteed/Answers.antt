use Rattle.kernel_guarantees.proofs.Guaranteed.{reached_is_guaranteed, run_is_guaranteed}
use Rattle.kernel_guarantees.proofs.guarantees.each_state_is_guaranteed.Goals as goal

pub returns : goal.returns
returns c = record { reached = reached_is_guaranteed; run = run_is_guaranteed }
