use Rattle.std.proofs.Common.{refl}
use Rattle.task_code.specs.Grammar.{plain, object, mask, shutdown}
use Rattle.task_code.proofs.Operands.{is_call, two_tokens}
use Rattle.task_code.proofs.calls.call.Goals as goal

pub returns-in_ok-rest-in-Plain : goal.returns-in_ok-rest-in-Plain
returns-in_ok-rest-in-Plain c = is_call _ _ _ _ _ _ _ c.in-Plain.is c.plain_call.ensures c.in_ok-rest-in-Plain.ensures.1 plain

pub returns-in_ok-rest-in-Object : goal.returns-in_ok-rest-in-Object
returns-in_ok-rest-in-Object c =
    is_call _ _ _ _ _ _ _ c.in-Object.is c.object_call.ensures (two_tokens _ _ _ _ _ c.in_ok-object-in-Object.ensures c.in_ok-rest-in-Object.ensures.1) object

pub returns-in_ok-events-in-Mask : goal.returns-in_ok-events-in-Mask
returns-in_ok-events-in-Mask c = is_call _ _ _ _ _ _ _ c.in-Mask.is c.mask_call.ensures refl (mask c.in_ok-events-in-Mask.ensures)

pub returns-in_ok-rest-in-ShutdownOs : goal.returns-in_ok-rest-in-ShutdownOs
returns-in_ok-rest-in-ShutdownOs c =
    let status = c.in_ok-status-in-ShutdownOs.ensures in
    is_call _ _ _ _ _ _ _ c.in-ShutdownOs.is refl (two_tokens _ _ _ _ _ status.2 c.in_ok-rest-in-ShutdownOs.ensures.1) (shutdown status.3)
