use Rattle.std.proofs.Common.{refl}
use Rattle.task_code.specs.Grammar.{alarm}
use Rattle.task_code.proofs.Operands.{is_call, six_tokens}
use Rattle.task_code.proofs.calls.call_of_alarm.Goals as goal

pub returns : goal.returns
returns c =
    is_call _ _ _ _ _ _ _ refl c.alarm_call.ensures (six_tokens _ _ _ _ _ _ _ _ _ _ _ c.in_ok-alarm.ensures c.in_ok-first.ensures.2 c.in_ok-cycle.ensures.2 c.in_ok-rest.ensures.1) alarm
