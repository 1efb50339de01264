use Rattle.kernel_guarantees.proofs.{Reaching.{reached_is_well}, Stopped.{latch_stays}}
use Rattle.kernel_guarantees.proofs.interrupts.a_latch_stays_until_its_routine_begins.Goals as goal

pub returns : goal.returns
returns c = λ app s e k reached came. latch_stays app s (reached_is_well app s reached) k came e
