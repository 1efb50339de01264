use Rattle.std.proofs.Common.{subst, sym}
use Rattle.osek_values.specs.Numbers.{mask}
use Rattle.osek_standard.specs.Well.{IsActive}
use Rattle.kernel_guarantees.proofs.CallAcceptances.{chain_is_accepted, release_is_accepted, schedule_is_accepted, terminate_is_accepted, wait_is_accepted}
use Rattle.kernel_guarantees.proofs.HeldOnce.{reached_is_ceiled}
use Rattle.kernel_guarantees.proofs.errors.services_are_accepted_from_who_may_call_them.Goals as goal

pub returns : goal.returns
returns c = record {
  terminates = λ app s choice d reached runs none is. terminate_is_accepted app s choice (subst IsActive (sym runs) tt) d runs none is;
  chains = λ app s choice d t reached runs none is room. chain_is_accepted app s choice (subst IsActive (sym runs) tt) d runs none t is room;
  schedules = λ app s choice d reached runs none is. schedule_is_accepted app s choice (subst IsActive (sym runs) tt) d runs none is;
  waits = λ app s choice d m reached runs none is ext. wait_is_accepted app s choice (subst IsActive (sym runs) tt) d runs none (mask m) is ext;
  releases = λ app s choice x r below reached active mine is stack. release_is_accepted app s choice active (reached_is_ceiled app s reached) x r below mine is stack;
}
