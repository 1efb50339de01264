use Rattle.kernel_guarantees.proofs.Starting.{initial_live, start_alarms, start_idle, start_runs}
use Rattle.kernel_guarantees.proofs.start.the_start_takes_what_is_autostarted.Goals as goal

pub returns : goal.returns
returns c = record {
  ready = λ app mode t known. initial_live app mode t known;
  runs = λ app mode t e. start_runs app mode t e;
  idle = λ app mode t e known. start_idle app mode e t known;
  alarms = λ app mode a known. start_alarms app mode a known;
}
