use Rattle.kernel_guarantees.proofs.Stopped.{halted_stays}
use Rattle.kernel_guarantees.proofs.shutdown.nothing_changes_after_shutdown.Goals as goal

pub returns : goal.returns
returns c = λ app s e halted. halted_stays app s halted e
