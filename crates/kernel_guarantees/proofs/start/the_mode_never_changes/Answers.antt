use Rattle.kernel_guarantees.proofs.{Reaching.{reached_is_well}, Starting.{start_mode, step_mode}}
use Rattle.kernel_guarantees.proofs.start.the_mode_never_changes.Goals as goal

pub returns : goal.returns
returns c = record {
  start = λ app mode. start_mode app mode;
  step = λ app s e reached. step_mode app s e (reached_is_well app s reached);
}
