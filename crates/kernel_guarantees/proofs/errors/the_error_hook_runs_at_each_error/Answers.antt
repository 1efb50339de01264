use Rattle.kernel_guarantees.proofs.HookSteps.{error_steps}
use Rattle.kernel_guarantees.proofs.errors.the_error_hook_runs_at_each_error.Goals as goal

pub returns : goal.returns
returns c = λ app s e hook. error_steps app s e hook
