use Rattle.std.proofs.Common.{subst}
use Rattle.osek_standard.specs.{declared.task_state.Activity.{Activity}, States.{task_state}}
use Rattle.kernel_guarantees.specs.Awaiting.{AwaitsNone}
use Rattle.kernel_guarantees.proofs.Awaiting.{reached_awaits}
use Rattle.kernel_guarantees.proofs.tasks.who_waits_has_no_awaited_event.Goals as goal

pub returns : goal.returns
returns c = λ app s t b reached waits. subst (λ (a : Activity). AwaitsNone app (task_state s t).events.0 a) waits (reached_awaits app s reached t)
