use Rattle.kernel_guarantees.proofs.{LockedSteps.{begins_unlocked}, Unlocked.{reached_is_unlocked}}
use Rattle.kernel_guarantees.proofs.interrupts.no_routine_begins_at_a_lock.Goals as goal

pub returns : goal.returns
returns c = record {
  begins = λ app s k active. begins_unlocked app s k active;
  routines = λ app s k reached. (reached_is_unlocked app s reached).routines k;
  task = λ app s k t reached. (reached_is_unlocked app s reached).task k t;
}
