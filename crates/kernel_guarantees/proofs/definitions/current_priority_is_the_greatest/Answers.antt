use Rattle.kernel_guarantees.proofs.LevelIs.{priority_found, priority_is}
use Rattle.kernel_guarantees.proofs.definitions.current_priority_is_the_greatest.Goals as goal

pub returns : goal.returns
returns c = record { is = priority_is; found = priority_found }
