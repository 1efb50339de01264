use Rattle.kernel_guarantees.proofs.LockedSteps.{lock_stays}
use Rattle.kernel_guarantees.proofs.interrupts.a_lock_keeps_the_processor.Goals as goal

pub returns : goal.returns
returns c = λ app s e quiet active locked. lock_stays app s quiet active locked e
