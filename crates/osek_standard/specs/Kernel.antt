-- One step of the kernel, its start in an application mode, and its runs (ISO 17356-3).
use Rattle.std.specs.{Prelude.{ℕ, ◌+◌, Bool, false, true, List, [], ◌∷◌, length, map, replicate, if◌then◌else◌, Some, None}, declared.option.Option.{Option}}
use Rattle.std.specs.List.{filter, range_with_len}
use Rattle.osek_values.specs.{Bits.{has_bit}, Hooks.{startup}, Numbers.{mask, task_no}}
use Rattle.osek_values.specs.declared.{event.Event.{Event, TheVariants.{Run, Irq, Tick}}, numbers.{ModeNo.{ModeNo}, SourceNo.{SourceNo}}}
use Rattle.osek_values.specs.declared.status.Ask.TheVariants as ask
use Rattle.oil_system.specs.declared.objects.Alarm.{Alarm}
use Rattle.osek_standard.specs.declared.{app.App.{App}, objects.Task.{Task}, task_state.TaskState.{TaskState}}
use Rattle.osek_standard.specs.declared.state.{State.{State}, AlarmState.{AlarmState}, Processor.{Processor}}
use Rattle.osek_standard.specs.{Apps.{source_count, the_task}, TaskStates.{suspended}, States.{with_latch}, Priority.{best}, Effects.{wanted, effected}}
use Rattle.osek_standard.specs.{Dispatch.{Stepped, silent, nothing_noted, with_hooks, if_any, concluded, instruction}, Arrivals.{arrival, entered}, Services.{live_at}}
use Rattle.osek_standard.specs.declared.state.AlarmState.TheVariants as alarm
use Rattle.osek_standard.specs.declared.state.Source.TheVariants as source
use Rattle.osek_standard.specs.declared.state.Processor.TheVariants as processor

-- Steps of the kernel and of images differ in the instruction alone, whose result may be a trap of an image: so the
-- result is of a type R into which each plain step is put.
module _ {R : Type 0} (plain : Stepped → R) (app : App) (s : State) where
  -- a routine begins, or else this is done
  abbrev pub entered_or : R → Option SourceNo → R
  entered_or instructed None = instructed
  entered_or instructed (Some k) = plain (silent (entered app s k))

  -- the first of these that applies: halted, nothing; a routine begins; idle, nothing; one instruction
  abbrev pub run_by : R → Processor → R
  run_by instructed processor.Halted = plain (silent s)
  run_by instructed processor.Idle = entered_or (plain (silent s)) (arrival app s)
  run_by instructed (processor.Running t) = entered_or instructed (arrival app s)
  run_by instructed (processor.Interrupted k over) = entered_or instructed (arrival app s)

  -- a source latches, or the processor does what it has to do
  abbrev pub step_with : (Bool → R) → Event → R
  step_with instructed (Run choice) = run_by (instructed choice) s.processor
  step_with instructed (Irq i) = plain (silent (with_latch s (length app.counters + i.0) true))
  step_with instructed (Tick c) = plain (silent (with_latch s c.0 true))

-- One step of the kernel.
abbrev pub step : App → State → Event → Stepped
step app s e = step_with (λ n. n) app s (instruction app s) e

abbrev pub started_task : ℕ → Task → TaskState
started_task mode x =
    if has_bit x.autostart mode
    then record { activity = live_at x.first 0; events = mask 0 }
    else suspended

abbrev pub started_alarm : ℕ → Alarm → AlarmState
started_alarm mode x = if has_bit x.autostart mode then alarm.Armed x.time x.cycle else alarm.Idle

-- the tasks that are autostarted in a mode, in order of declaration
abbrev pub autostarted : App → ℕ → List ℕ
autostarted app mode = filter (λ t. has_bit (the_task app t).autostart mode) (range_with_len 0 (length app.tasks))

-- the state at the start, before the dispatch
abbrev pub initial : App → ModeNo → State
initial app mode = record {
  mode = mode;
  processor = processor.Idle;
  tasks = map (started_task mode.0) app.tasks;
  counters = map (λ _. 0) app.counters;
  alarms = map (started_alarm mode.0) app.alarms;
  sources = replicate (source_count app) source.Out;
  latched = replicate (source_count app) false;
  line = map task_no (autostarted app mode.0);
}

-- The start in a mode (ISO 17356-3, application modes and StartOS): StartupHook, and the best task is dispatched.
unfoldable pub start : App → ModeNo → Stepped
start app mode =
    let s = initial app mode in
    concluded app (effected s (with_hooks nothing_noted (wanted app startup)) ask.No) (if_any (best app s))

-- the states and notes along a run from a state on
abbrev pub steps : App → State → List Event → List Stepped
steps app s [] = []
steps app s (e ∷ es) = let n = step app s e in n ∷ steps app n.state es

-- a run of the kernel: its start, and each event
unfoldable pub run : App → ModeNo → List Event → List Stepped
run app mode es = start app mode ∷ steps app (start app mode).state es
