-- Who runs between two steps (ISO 17356-3, scheduling policy).
use Rattle.std.specs.Prelude.{◌≡◌, ◌≢◌, ℕ, ◌≤◌, Bool, true, false, ◌||◌, None, Some}
use Rattle.osek_values.specs.declared.{event.Event.{Event, TheVariants.{Run}}, numbers.TaskNo.{TaskNo}}
use Rattle.oil_system.specs.declared.objects.Schedule.TheVariants.{Full}
use Rattle.osek_standard.specs.declared.{app.App.{App}, block.Kind.{Kind}, state.{State.{State}, Caller.{Caller}}}
use Rattle.osek_standard.specs.declared.call.{Call.TheVariants.{Plain, Task, Mask, ShutdownOs}, PlainService.TheVariants.{Schedule, TerminateTask}, TaskService.TheVariants.{ChainTask}, MaskService.TheVariants.{WaitEvent}}
use Rattle.osek_standard.specs.declared.block.Kind.TheVariants as kind
use Rattle.osek_standard.specs.declared.state.Caller.TheVariants as caller
use Rattle.osek_standard.specs.{Apps.{is_routine_end, may_dispatch, the_block, the_task}, TaskStates.{is_live}, States.{here, task_of, task_state}, Priority.{current_priority}, Arrivals.{arrival}, Well.{IsActive}}
use Rattle.osek_standard.specs.declared.state.Processor.TheVariants as processor
use Rattle.osek_values.specs.declared.status.Status.TheVariants as status
use Rattle.osek_standard.specs.{Effects.{effect, is_schedule}, Kernel.{step}}
use Rattle.kernel_guarantees.specs.{Instructions.{is_end}, Underway.{is_current, is_underway}}

-- the kind of instruction that the processor does next
abbrev pub kind_at : App → State → Kind
kind_at app s = (the_block app (here s).block.0).kind

-- the instructions by which a task gives the processor up: Schedule, its end, WaitEvent, and ShutdownOS
abbrev pub leaves : Kind → Bool
leaves (kind.Call (Plain Schedule)) = true
leaves (kind.Call (Plain TerminateTask)) = true
leaves (kind.Call (Task ChainTask t)) = true
leaves (kind.Call (Mask WaitEvent m)) = true
leaves (kind.Call ShutdownOs) = true
leaves kind.TaskEnd = true
leaves _ = false

abbrev pub is_shutdown : Kind → Bool
is_shutdown (kind.Call ShutdownOs) = true
is_shutdown _ = false

-- the step does an instruction: no source latches, and no routine begins
pub record DoesInstruction (app : App) (s : State) (e : Event) : Type 0 where
  pub choice : Bool
  pub event : e ≡ Run choice
  pub active : IsActive s.processor
  pub none : arrival app s ≡ None

-- the points of rescheduling: a task's call after which another one may be dispatched, or its end, and a routine's end; and
-- ShutdownOS, after which no task has the processor
abbrev pub reschedules : Caller → Kind → Bool
reschedules caller.Nobody k = false
reschedules (caller.Task c) k = may_dispatch k || is_shutdown k
reschedules (caller.Routine r) k = is_routine_end k || is_shutdown k

-- the processor goes from c, which neither ends nor waits, to another task
pub record IsPreemption (app : App) (s : State) (e : Event) (c x : TaskNo) : Type 0 where
  pub had : task_of s.processor ≡ Some c
  pub gets : task_of (step app s e).state.processor ≡ Some x
  pub other : x.0 ≢ c.0
  pub goes_on : is_end (kind_at app s) ≡ false
  pub live : is_live (task_state (step app s e).state c.0) ≡ true

-- c calls Schedule, which is accepted, and keeps the processor
pub record IsKeptAtSchedule (app : App) (s : State) (e : Event) (c : TaskNo) : Type 0 where
  pub does : DoesInstruction app s e
  pub runs : s.processor ≡ processor.Running c
  pub calls : is_schedule (kind_at app s) ≡ true
  pub accepted : (effect app s does.choice).notes.status ≡ Some status.Ok
  pub keeps : is_current (step app s e).state c.0 ≡ true

-- an instruction by which the running task gives the processor up, or a routine's ShutdownOS
abbrev pub gives_up : Caller → Kind → Bool
gives_up caller.Nobody k = false
gives_up (caller.Task c) k = leaves k
gives_up (caller.Routine r) k = is_shutdown k

pub record IsSettled (app : App) (s : State) : Type 0 where
  -- the processor is idle only where no task is ready
  pub idle : s.processor ≡ processor.Idle → (t : ℕ) → is_live (task_state s t) ≡ false
  -- a preemptive task runs only where none that is ready has a higher current priority
  pub at_best : (c : TaskNo) → s.processor ≡ processor.Running c → (the_task app c.0).schedule ≡ Full → (u : ℕ) → is_live (task_state s u) ≡ true
      → current_priority app s u ≤ current_priority app s c.0
  -- where no task runs or is interrupted, none is underway, unless the kernel halted
  pub bare : task_of s.processor ≡ None → (s.processor ≡ processor.Halted → ⊥) → (t : ℕ) → is_underway app s t ≡ false
