use Rattle.kernel_guarantees.proofs.{OtherRoutines.{stays_or_halts}, Reaching.{reached_is_well}}
use Rattle.kernel_guarantees.proofs.interrupts.an_interrupted_routine_stays_as_it_is.Goals as goal

pub returns : goal.returns
returns c = λ app s e k reached inside beside. stays_or_halts app s k beside inside e (reached_is_well app s reached)
