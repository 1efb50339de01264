-- What callers of the kernel know of its parts.
use Rattle.std.specs.{Prelude.{◌≡◌, ⊤, ℕ, ◌+◌, ◌<◌, Bool, true, false, length, Some, None, is_some, if◌then◌else◌}, declared.option.Option.{Option}}
use Rattle.osek_values.specs.declared.{numbers.{SourceNo.{SourceNo}, TaskNo.{TaskNo}}, status.Ask.{Ask}, event.Event.{Event, TheVariants.{Run, Irq, Tick}}}
use Rattle.osek_values.specs.declared.status.Ask.TheVariants as ask
use Rattle.osek_standard.specs.{declared.{app.App.{App}, state.{State.{State}, Processor.{Processor}, Caller.{Caller, TheVariants.{Nobody, Task, Routine}}}}, States.{is_that_task, with_latch}}
use Rattle.osek_standard.specs.{Arrivals.{arrival, entered}, Well.{AreOut}, Apps.{source_count}, Internal.{internal_of}}
use Rattle.osek_standard.specs.declared.state.Processor.TheVariants as processor
use Rattle.generic_kernel.specs.Levels.{level}

-- the state after an arrival, if there is one
abbrev pub entered_if : App → State → Option SourceNo → State
entered_if app s None = s
entered_if app s (Some k) = entered app s k

-- who calls is declared
abbrev pub IsKnownCaller : App → Caller → Type 0
IsKnownCaller app Nobody = ⊤
IsKnownCaller app (Task t) = t.0 < length app.tasks
IsKnownCaller app (Routine k) = k.0 < source_count app

-- the running task, where it names an INTERNAL resource
abbrev pub task_inside : App → Processor → Option TaskNo
task_inside app processor.Halted = None
task_inside app processor.Idle = None
task_inside app (processor.Running t) = if is_some (internal_of app t.0) then Some t else None
task_inside app (processor.Interrupted k over) = None

-- each task is as high as it was, but for one that runs and names an INTERNAL resource
abbrev pub KeepsLevels : App → State → State → Type 0
KeepsLevels app s r = (t : ℕ) → is_that_task (task_inside app r.processor) t ≡ false → level app r t ≡ level app s t

-- where the processor is asked for, no routine runs
abbrev pub MayDispatch : App → State → Ask → Type 0
MayDispatch app s ask.No = ⊤
MayDispatch app s ask.Maybe = AreOut app s
MayDispatch app s ask.Left = AreOut app s
MayDispatch app s ask.Free = AreOut app s

-- an instruction is due where a task or a routine has the processor and no routine begins
abbrev pub due_by : Bool → Processor → Option SourceNo → Option Bool
due_by choice processor.Halted k = None
due_by choice processor.Idle k = None
due_by choice (processor.Running t) None = Some choice
due_by choice (processor.Running t) (Some k) = None
due_by choice (processor.Interrupted l over) None = Some choice
due_by choice (processor.Interrupted l over) (Some k) = None

module _ (app : App) (s : State) where
  -- the choice of the instruction that is due at an event, if one is
  abbrev pub instruction_due : Event → Option Bool
  instruction_due (Run choice) = due_by choice s.processor (arrival app s)
  instruction_due (Irq i) = None
  instruction_due (Tick c) = None

  abbrev pub run_taken : Processor → State
  run_taken processor.Halted = s
  run_taken processor.Idle = entered_if app s (arrival app s)
  run_taken (processor.Running t) = entered_if app s (arrival app s)
  run_taken (processor.Interrupted k over) = entered_if app s (arrival app s)

  -- the state after what an event does but for an instruction
  abbrev pub event_taken : Event → State
  event_taken (Run choice) = run_taken s.processor
  event_taken (Irq i) = with_latch s (length app.counters + i.0) true
  event_taken (Tick c) = with_latch s c.0 true
