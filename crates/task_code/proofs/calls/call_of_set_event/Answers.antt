use Rattle.std.proofs.Common.{refl}
use Rattle.task_code.specs.Grammar.{set_event}
use Rattle.task_code.proofs.Operands.{is_call, two_tokens}
use Rattle.task_code.proofs.calls.call_of_set_event.Goals as goal

pub returns : goal.returns
returns c =
    is_call _ _ _ _ _ _ _ refl refl (two_tokens _ _ _ _ _ c.in_ok-task.ensures c.in_ok-rest.ensures.1) (set_event c.in_ok-events.ensures)
