use Rattle.kernel_guarantees.proofs.LockedSteps.{held_off}
use Rattle.kernel_guarantees.proofs.interrupts.an_interrupt_waits_only_for_a_level_or_a_lock.Goals as goal

pub returns : goal.returns
returns c = λ app s choice k on came. held_off app s choice k on came
