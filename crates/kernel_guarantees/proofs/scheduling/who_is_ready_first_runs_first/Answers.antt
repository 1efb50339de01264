use Rattle.kernel_guarantees.proofs.{Delays.{ready_now}, GoingAhead.{ahead_along, goes_ahead, preempted_ahead}}
use Rattle.kernel_guarantees.proofs.scheduling.who_is_ready_first_runs_first.Goals as goal

pub returns : goal.returns
returns c = record {
  first = λ app s es t u reached ready dead under. (ahead_along app s es t u reached (goes_ahead app s reached t u (ready_now app t s es ready) dead under) ready).beside;
  later = λ app s t u reached ready dead under. goes_ahead app s reached t u ready dead under;
  preempted = λ app s e t x u reached p other fresh under. preempted_ahead app s reached e t x u p other fresh under;
  stays = λ app s es t u reached ahead ready. ahead_along app s es t u reached ahead ready;
}
