-- The services and the shapes of their calls, under one name.
pub use Rattle.osek_standard.specs.declared.call.Call.TheVariants.{Plain, Task, Resource, SetEvent, Mask, Alarm, Arm, Lock, ShutdownOs}
pub use Rattle.osek_standard.specs.declared.call.PlainService.TheVariants.{TerminateTask, Schedule, GetTaskId, GetActiveApplicationMode}
pub use Rattle.osek_standard.specs.declared.call.TaskService.TheVariants.{ActivateTask, ChainTask, GetEvent, GetTaskState}
pub use Rattle.osek_standard.specs.declared.call.{ResourceService.TheVariants.{GetResource, ReleaseResource}, MaskService.TheVariants.{ClearEvent, WaitEvent}}
pub use Rattle.osek_standard.specs.declared.call.{AlarmService.TheVariants.{CancelAlarm, GetAlarm}, ArmService.TheVariants.{SetRelAlarm, SetAbsAlarm}}
