-- The blocks of task code (this project's profile): each statement and each body's closing brace is one, numbered from 0
-- in the order of the text; behind them stand the tick routines.
use Rattle.std.specs.{Prelude.{ℕ, ◌+◌, Bool, true, false, List, [], ◌∷◌, ◌++◌, length, slice_index_or, bit_or, unwrap_or}, List.{sum_by}}
use Rattle.osek_values.specs.{Numbers.{task_no, res_no, alarm_no, block_no, mask}, declared.{numbers.{TaskNo.{TaskNo}, ResNo.{ResNo}, AlarmNo.{AlarmNo}}, mask.Mask.{Mask}}}
use Rattle.osek_standard.specs.declared.block.{Block.{Block}, Kind.{Kind}}
use Rattle.osek_standard.specs.declared.block.Kind.TheVariants as kind
use Rattle.osek_standard.specs.declared.call.Call.{Call as Service}
use Rattle.osek_standard.specs.declared.call.Call.TheVariants as service
use Rattle.osek_standard.specs.declared.call.PlainService.TheVariants as plain
use Rattle.osek_standard.specs.declared.call.TaskService.TheVariants as of_task
use Rattle.osek_standard.specs.declared.call.ResourceService.TheVariants as of_resource
use Rattle.osek_standard.specs.declared.call.MaskService.TheVariants as of_mask
use Rattle.osek_standard.specs.declared.call.AlarmService.TheVariants as of_alarm
use Rattle.osek_standard.specs.declared.call.ArmService.TheVariants as arm
use Rattle.osek_standard.specs.Validity.{due_of}
use Rattle.oil_system.specs.declared.system.{CounterObject.{CounterObject}, EventObject.{EventObject}, System.{System}}
use Rattle.task_code.specs.declared.call.{Reference.{Reference}, Call.{Call}}
use Rattle.task_code.specs.declared.call.Call.TheVariants as call
use Rattle.task_code.specs.declared.tree.{BodyKind.{BodyKind, TheVariants.{Task, Isr}}, Body.{Body}, Condition.TheVariants.{Choice, Always}}
use Rattle.task_code.specs.Statements.{Statements, closed, work_then, if_then, if_else_then, while_then, call_then, closing_line, nodes}
use Rattle.block_graph.specs.{Names.{task_of, alarm_of, resource_of, event_of}, declared.locks.Opener.{Opener}, Locks.{open_behind, open_behind_call}}

-- an event that isn't declared has no bits
abbrev pub no_event : EventObject
no_event = record { name = []; mask = mask 0 }

-- a lock is open
abbrev pub is_locked : List Opener → Bool
is_locked [] = false
is_locked (opener ∷ more) = true

abbrev pub block : List Opener → Kind → ℕ → ℕ → Block
block locks kind line next = record { kind = kind; locked = is_locked locks; line = line; next = block_no next }

-- where statements are entered that begin at block n: at the first, or where there is none at what follows them
abbrev pub entry : Statements → ℕ → ℕ → ℕ
entry (closed line) n after = after
entry (work_then line count next) n after = n
entry (if_then line branch next) n after = n
entry (if_else_then line branch otherwise next) n after = n
entry (while_then line condition body next) n after = n
entry (call_then line call next) n after = n

-- a body's closing brace
abbrev pub end_kind : BodyKind → Kind
end_kind Task = kind.TaskEnd
end_kind Isr = kind.IsrEnd

abbrev pub size : Body → ℕ
size body = nodes body.statements + 1

abbrev pub source_size : List Body → ℕ
source_size bodies = sum_by size bodies

-- A block of a tick routine stands on no line.
abbrev pub tick_block : Kind → ℕ → Block
tick_block kind next = block [] kind 0 next

-- an Expire for each alarm, and IsrEnd
abbrev pub expiries : List ℕ → ℕ → List Block
expiries [] n = tick_block kind.IsrEnd n ∷ []
expiries (alarm ∷ due) n = tick_block (kind.Expire (alarm_no alarm)) (n + 1) ∷ expiries due (n + 1)

-- the tick routine of a counter with these alarms
abbrev pub routine : List ℕ → ℕ → List Block
routine due n = tick_block kind.CountUp (n + 1) ∷ expiries due (n + 1)

abbrev pub routine_size : List ℕ → ℕ
routine_size due = length due + 2

module _ (s : System) where
  -- the numbers of the objects that a call names; names that aren't declared stand for the first
  abbrev pub the_task : Reference → TaskNo
  the_task r = task_no (unwrap_or (task_of s r.name) 0)

  abbrev pub the_alarm : Reference → AlarmNo
  the_alarm r = alarm_no (unwrap_or (alarm_of s r.name) 0)

  abbrev pub the_resource : Reference → ResNo
  the_resource r = res_no (unwrap_or (resource_of s r.name) 0)

  abbrev pub event_bits : Reference → ℕ
  event_bits r = (slice_index_or s.events (unwrap_or (event_of s r.name) 0) no_event).mask.0

  -- the events of a mask
  abbrev pub mask_bits : List Reference → ℕ
  mask_bits [] = 0
  mask_bits (r ∷ more) = bit_or (event_bits r) (mask_bits more)

  abbrev pub the_mask : List Reference → Mask
  the_mask events = mask (mask_bits events)

  -- the service that a call calls
  abbrev pub service_of : Call → Service
  service_of (call.ActivateTask task) = service.Task of_task.ActivateTask (the_task task)
  service_of call.TerminateTask = service.Plain plain.TerminateTask
  service_of (call.ChainTask task) = service.Task of_task.ChainTask (the_task task)
  service_of call.Schedule = service.Plain plain.Schedule
  service_of (call.GetResource resource) = service.Resource of_resource.GetResource (the_resource resource)
  service_of (call.ReleaseResource resource) = service.Resource of_resource.ReleaseResource (the_resource resource)
  service_of (call.SetEvent task events) = service.SetEvent (the_task task) (the_mask events)
  service_of (call.ClearEvent events) = service.Mask of_mask.ClearEvent (the_mask events)
  service_of (call.GetEvent task) = service.Task of_task.GetEvent (the_task task)
  service_of (call.WaitEvent events) = service.Mask of_mask.WaitEvent (the_mask events)
  service_of (call.SetRelAlarm alarm increment cycle) = service.Arm arm.SetRelAlarm (the_alarm alarm) increment cycle
  service_of (call.SetAbsAlarm alarm start cycle) = service.Arm arm.SetAbsAlarm (the_alarm alarm) start cycle
  service_of (call.CancelAlarm alarm) = service.Alarm of_alarm.CancelAlarm (the_alarm alarm)
  service_of (call.GetAlarm alarm) = service.Alarm of_alarm.GetAlarm (the_alarm alarm)
  service_of call.GetTaskId = service.Plain plain.GetTaskId
  service_of (call.GetTaskState task) = service.Task of_task.GetTaskState (the_task task)
  service_of call.GetActiveApplicationMode = service.Plain plain.GetActiveApplicationMode
  service_of (call.ShutdownOs _) = service.ShutdownOs
  service_of (call.LockCall lock) = service.Lock lock

  -- what the block of a call does
  abbrev pub kind_of : Call → Kind
  kind_of c = kind.Call (service_of c)

  -- The blocks of statements that begin at block n and behind which block `after` follows, with the locks that are open
  -- before them. What follows a statement is the next of its list, and what follows the last is what follows the list:
  -- of a branch what follows the `if`, of a loop's body the loop.
  abbrev pub blocks_of : Statements → (n after : ℕ) → List Opener → List Block
  blocks_of (closed line) n after locks = []
  blocks_of (work_then line count next) n after locks =
      block locks (kind.Work count) line (entry next (n + 1) after) ∷ blocks_of next (n + 1) after locks
  -- by choice 1 into the branch, by choice 0 to what follows
  blocks_of (if_then line branch next) n after locks =
      let first = n + 1 in let behind = first + nodes branch in let out = entry next behind after in
      block locks (kind.Choice (block_no out)) line (entry branch first out)
      ∷ (blocks_of branch first out locks ++ blocks_of next behind after locks)
  -- by choice 1 into the first branch, by choice 0 into the other
  blocks_of (if_else_then line branch otherwise next) n after locks =
      let first = n + 1 in let second = first + nodes branch in let behind = second + nodes otherwise in let out = entry next behind after in
      block locks (kind.Choice (block_no (entry otherwise second out))) line (entry branch first out)
      ∷ (blocks_of branch first out locks ++ (blocks_of otherwise second out locks ++ blocks_of next behind after (open_behind branch locks)))
  -- by choice 1 into the body, by choice 0 to what follows
  blocks_of (while_then line Choice body next) n after locks =
      let first = n + 1 in let behind = first + nodes body in
      block locks (kind.Choice (block_no (entry next behind after))) line (entry body first n)
      ∷ (blocks_of body first n locks ++ blocks_of next behind after locks)
  -- into the body
  blocks_of (while_then line Always body next) n after locks =
      let first = n + 1 in let behind = first + nodes body in
      block locks kind.Loop line (entry body first n)
      ∷ (blocks_of body first n locks ++ blocks_of next behind after locks)
  blocks_of (call_then line call next) n after locks =
      block locks (kind_of call) line (entry next (n + 1) after) ∷ blocks_of next (n + 1) after (open_behind_call locks call)

  -- the blocks of a body that begins at block n; an end goes nowhere, which stands as its own number
  abbrev pub body_blocks : Body → ℕ → List Block
  body_blocks body n =
      let end = n + nodes body.statements in
      blocks_of body.statements n end [] ++ block [] (end_kind body.kind) (closing_line body.statements) end ∷ []

  abbrev pub source_blocks : List Body → ℕ → List Block
  source_blocks [] n = []
  source_blocks (body ∷ more) n = body_blocks body n ++ source_blocks more (n + size body)

  -- the tick routines of the counters from number c on
  abbrev pub routines : List CounterObject → (c n : ℕ) → List Block
  routines [] c n = []
  routines (counter ∷ more) c n = routine (due_of s.alarms c) n ++ routines more (c + 1) (n + routine_size (due_of s.alarms c))

  abbrev pub app_blocks : List Body → List Block
  app_blocks bodies = source_blocks bodies 0 ++ routines s.counters 0 (source_size bodies)
