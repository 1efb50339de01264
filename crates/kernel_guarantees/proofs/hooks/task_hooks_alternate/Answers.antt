use Rattle.kernel_guarantees.proofs.{HookRuns.{hooks_alternate, step_turns}, Reaching.{reached_is_well}}
use Rattle.kernel_guarantees.proofs.hooks.task_hooks_alternate.Goals as goal

pub returns : goal.returns
returns c = record {
  run = λ app mode events both known. hooks_alternate app both.1 both.0 mode events known;
  post = λ app s e both reached. (step_turns app both.1 both.0 s (reached_is_well app s reached) e).closes;
  pre = λ app s e both reached. (step_turns app both.1 both.0 s (reached_is_well app s reached) e).opens;
  within = λ app s e both reached. (step_turns app both.1 both.0 s (reached_is_well app s reached) e).within;
  same = λ app s e both reached. (step_turns app both.1 both.0 s (reached_is_well app s reached) e).stays;
}
