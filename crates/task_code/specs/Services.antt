-- The call that each service makes of what stands between its parentheses.
use Rattle.std.specs.Prelude.{ℕ, List}
use Rattle.task_code.specs.declared.call.{Reference.{Reference}, Call.{Call}}
use Rattle.task_code.specs.declared.call.Call.TheVariants as call
use Rattle.task_code.specs.declared.words.{PlainService.{PlainService, TheVariants.{TerminateTask, Schedule, GetTaskId, GetActiveApplicationMode, Lock}}, ObjectService.{ObjectService, TheVariants.{ActivateTask, ChainTask, GetResource, ReleaseResource, GetEvent, CancelAlarm, GetAlarm, GetTaskState}}, MaskService.{MaskService, TheVariants.{ClearEvent, WaitEvent}}, AlarmService.{AlarmService, TheVariants.{SetRelAlarm, SetAbsAlarm}}}

abbrev pub plain_call : PlainService → Call
plain_call TerminateTask = call.TerminateTask
plain_call Schedule = call.Schedule
plain_call GetTaskId = call.GetTaskId
plain_call GetActiveApplicationMode = call.GetActiveApplicationMode
plain_call (Lock lock) = call.LockCall lock

abbrev pub object_call : ObjectService → Reference → Call
object_call ActivateTask task = call.ActivateTask task
object_call ChainTask task = call.ChainTask task
object_call GetResource resource = call.GetResource resource
object_call ReleaseResource resource = call.ReleaseResource resource
object_call GetEvent task = call.GetEvent task
object_call CancelAlarm alarm = call.CancelAlarm alarm
object_call GetAlarm alarm = call.GetAlarm alarm
object_call GetTaskState task = call.GetTaskState task

abbrev pub mask_call : MaskService → List Reference → Call
mask_call ClearEvent mask = call.ClearEvent mask
mask_call WaitEvent mask = call.WaitEvent mask

abbrev pub alarm_call : AlarmService → Reference → ℕ → ℕ → Call
alarm_call SetRelAlarm alarm increment cycle = call.SetRelAlarm alarm increment cycle
alarm_call SetAbsAlarm alarm start cycle = call.SetAbsAlarm alarm start cycle
