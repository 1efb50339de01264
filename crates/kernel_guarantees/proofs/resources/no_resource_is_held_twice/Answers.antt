use Rattle.kernel_guarantees.proofs.HeldOnce.{reached_is_held_once}
use Rattle.kernel_guarantees.proofs.resources.no_resource_is_held_twice.Goals as goal

pub returns : goal.returns
returns c = λ app s r. reached_is_held_once app s r
