use Rattle.std.proofs.Common.{refl}
use Rattle.kernel_guarantees.specs.HookNotes.{ShutdownHook, StartupHook}
use Rattle.kernel_guarantees.proofs.{HookRuns.{start_plain}, HookSteps.{startup_steps}, Reaching.{reached_is_well}, Shutting.{shutdown_steps}}
use Rattle.kernel_guarantees.proofs.hooks.startup_and_shutdown_hooks_run_once.Goals as goal

pub returns : goal.returns
returns c = record {
  at_the_start = λ app mode hook. start_plain app StartupHook mode refl refl hook;
  in_no_step = λ app s e hook. startup_steps app s e hook;
  not_at_the_start = λ app mode hook. start_plain app ShutdownHook mode refl refl hook;
  at_the_end = λ app s e reached hook. shutdown_steps app s (reached_is_well app s reached) e hook;
}
