-- What an application declares, looked up by number. Past the end of a table stands an entry that declares nothing.
use Rattle.std.specs.{Prelude.{⊤, ℕ, ◌-◌, ◌+◌, ◌<◌, Bool, true, false, ◌==◌, nat_lt, not, List, length, slice_index_or, if◌then◌else◌}, List.{list_any}}
use Rattle.osek_values.specs.declared.{numbers.BlockNo.{BlockNo}, event.Event.{Event, TheVariants.{Run, Irq, Tick}}}
use Rattle.oil_system.specs.declared.objects.{Alarm.{Alarm}, Resource.{Resource}}
pub use Rattle.osek_standard.specs.Validity.{no_task, no_isr, no_counter, no_alarm, no_resource, no_block}
use Rattle.osek_standard.specs.{Validity.{is_cycle_of, is_within}, Tables.{Tables, tabled}, declared.{app.App.{App}, objects.{Task.{Task}, Isr.{Isr}, Counter.{Counter}}}}
use Rattle.osek_standard.specs.declared.block.{Block.{Block}, Kind.{Kind}}
use Rattle.osek_standard.specs.declared.block.Kind.TheVariants as kind
use Rattle.osek_standard.specs.declared.call.Call.{Call}
use Rattle.osek_standard.specs.CallNames as call

-- the events that a task waits for at a block of this kind
abbrev pub awaited : Kind → ℕ
awaited (kind.Call (call.Mask call.WaitEvent m)) = m.0
awaited _ = 0

-- the calls after which the kernel may dispatch another task
abbrev pub call_may_dispatch : Call → Bool
call_may_dispatch (call.Task call.ActivateTask t) = true
call_may_dispatch (call.Plain call.TerminateTask) = true
call_may_dispatch (call.Task call.ChainTask t) = true
call_may_dispatch (call.Plain call.Schedule) = true
call_may_dispatch (call.Resource call.GetResource r) = false
call_may_dispatch (call.Resource call.ReleaseResource r) = true
call_may_dispatch (call.SetEvent t m) = true
call_may_dispatch (call.Mask call.ClearEvent m) = false
call_may_dispatch (call.Task call.GetEvent t) = false
call_may_dispatch (call.Mask call.WaitEvent m) = true
call_may_dispatch (call.Arm call.SetRelAlarm a i c) = false
call_may_dispatch (call.Arm call.SetAbsAlarm a i c) = false
call_may_dispatch (call.Alarm call.CancelAlarm a) = false
call_may_dispatch (call.Alarm call.GetAlarm a) = false
call_may_dispatch (call.Plain call.GetTaskId) = false
call_may_dispatch (call.Task call.GetTaskState t) = false
call_may_dispatch (call.Plain call.GetActiveApplicationMode) = false
call_may_dispatch call.ShutdownOs = false
call_may_dispatch (call.Lock l) = false

abbrev pub may_dispatch : Kind → Bool
may_dispatch (kind.Work n) = false
may_dispatch (kind.Choice o) = false
may_dispatch kind.Loop = false
may_dispatch (kind.Call c) = call_may_dispatch c
may_dispatch kind.TaskEnd = true
may_dispatch kind.IsrEnd = false
may_dispatch kind.CountUp = false
may_dispatch (kind.Expire a) = false

abbrev pub is_routine_end : Kind → Bool
is_routine_end kind.IsrEnd = true
is_routine_end _ = false

-- one of these tasks has the block
abbrev pub is_task_block_in : List Task → ℕ → Bool
is_task_block_in tasks b = list_any (λ (x : Task). is_within b (x.first.0, x.count)) tasks

-- A site, where these are the tasks: a task's call after which the kernel may dispatch, the end of a task, or the end of
-- a routine.
abbrev pub is_site_in : List Task → ℕ → Kind → Bool
is_site_in tasks b k = if is_routine_end k then true else if may_dispatch k then is_task_block_in tasks b else false

module _ (app : App) where
  abbrev pub tables : Tables
  tables = tabled app.hooks app.tasks app.isrs app.counters app.alarms app.resources app.modes app.blocks

  abbrev pub the_task : ℕ → Task
  the_task t = slice_index_or app.tasks t no_task

  abbrev pub the_isr : ℕ → Isr
  the_isr i = slice_index_or app.isrs i no_isr

  abbrev pub the_counter : ℕ → Counter
  the_counter c = slice_index_or app.counters c no_counter

  abbrev pub the_alarm : ℕ → Alarm
  the_alarm a = slice_index_or app.alarms a no_alarm

  abbrev pub the_resource : ℕ → Resource
  the_resource r = slice_index_or app.resources r no_resource

  abbrev pub the_block : ℕ → Block
  the_block b = slice_index_or app.blocks b no_block

  -- a task that names an event is extended, and its own event bits aren't empty (ISO 17356-3, task model)
  abbrev pub is_extended : ℕ → Bool
  is_extended t = not ((the_task t).own.0 == 0)

  -- Sources of interrupts are numbered: the counters first, then the ISRs, each in order of declaration.
  abbrev pub source_count : ℕ
  source_count = length app.counters + length app.isrs

  abbrev pub is_counter : ℕ → Bool
  is_counter k = nat_lt k (length app.counters)

  -- where the routine of a source begins: a counter's tick routine, or an ISR's body
  abbrev pub routine_start : ℕ → BlockNo
  routine_start k = if is_counter k then (the_counter k).first else (the_isr (k - length app.counters)).first

  abbrev pub routine_count : ℕ → ℕ
  routine_count k = if is_counter k then (the_counter k).count else (the_isr (k - length app.counters)).count

  -- an ISR's priority; tick routines have the lowest
  abbrev pub source_priority : ℕ → ℕ
  source_priority k = if is_counter k then 0 else (the_isr (k - length app.counters)).priority

  -- the greatest value of an alarm's counter
  abbrev pub max_of : ℕ → ℕ
  max_of a = (the_counter (the_alarm a).counter.0).max

  -- a cycle that an alarm's counter allows
  abbrev pub is_cycle : ℕ → ℕ → Bool
  is_cycle a cycle = is_cycle_of (the_counter (the_alarm a).counter.0) cycle

  -- a task has the block
  abbrev pub is_task_block : ℕ → Bool
  is_task_block b = is_task_block_in app.tasks b

  -- the block is a site
  abbrev pub is_site : ℕ → Bool
  is_site b = is_site_in app.tasks b (the_block b).kind

  -- the source of an event is declared
  abbrev pub IsDeclared : Event → Type 0
  IsDeclared (Run choice) = ⊤
  IsDeclared (Irq i) = i.0 < length app.isrs
  IsDeclared (Tick c) = c.0 < length app.counters
