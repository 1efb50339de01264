-- the call of each service of one object
use Rattle.task_code.proofs.calls.object_call.Goals as goal

pub returns-in-ActivateTask : goal.returns-in-ActivateTask
returns-in-ActivateTask c = rw c.in-ActivateTask.is

pub returns-in-ChainTask : goal.returns-in-ChainTask
returns-in-ChainTask c = rw c.in-ChainTask.is

pub returns-in-GetResource : goal.returns-in-GetResource
returns-in-GetResource c = rw c.in-GetResource.is

pub returns-in-ReleaseResource : goal.returns-in-ReleaseResource
returns-in-ReleaseResource c = rw c.in-ReleaseResource.is

pub returns-in-GetEvent : goal.returns-in-GetEvent
returns-in-GetEvent c = rw c.in-GetEvent.is

pub returns-in-CancelAlarm : goal.returns-in-CancelAlarm
returns-in-CancelAlarm c = rw c.in-CancelAlarm.is

pub returns-in-GetAlarm : goal.returns-in-GetAlarm
returns-in-GetAlarm c = rw c.in-GetAlarm.is

pub returns-in-GetTaskState : goal.returns-in-GetTaskState
returns-in-GetTaskState c = rw c.in-GetTaskState.is
