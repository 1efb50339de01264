-- The parts of a state, looked up by number, and who has the processor.
use Rattle.std.specs.Prelude.{ℕ, Bool, false, ◌==◌, Some, None, List, length, slice_index_or, slice_set, if◌then◌else◌, true, ◌||◌, [], map, ⊤}
use Rattle.std.specs.{List.{list_any, filter, range_with_len}, declared.option.Option.{Option}}
use Rattle.osek_values.specs.{declared.{numbers.{TaskNo.{TaskNo}, ResNo.{ResNo}, SourceNo.{SourceNo}}, status.Letter.{Letter, TheVariants.{S, Y, R, W}}}, Numbers.{block_no}}
use Rattle.osek_standard.specs.declared.task_state.{TaskState.{TaskState}, Activity.{Activity, TheVariants.{Suspended, Live, Waiting}}, Place.{Place}}
use Rattle.osek_standard.specs.declared.state.{State.{State}, AlarmState.{AlarmState}, Source.{Source}, Processor.{Processor}, Caller.{Caller}}
use Rattle.osek_standard.specs.TaskStates.{suspended, is_live, held, holds}
use Rattle.osek_standard.specs.declared.state.AlarmState.TheVariants as alarm
use Rattle.osek_standard.specs.declared.state.Source.TheVariants as source
use Rattle.osek_standard.specs.declared.state.Processor.TheVariants as processor
use Rattle.osek_standard.specs.declared.state.Caller.TheVariants as caller_is

-- the running task, or the one that is interrupted
abbrev pub task_of : Processor → Option TaskNo
task_of processor.Halted = None
task_of processor.Idle = None
task_of (processor.Running t) = Some t
task_of (processor.Interrupted k over) = over

-- who calls: a task, or a routine at interrupt level
abbrev pub caller : Processor → Caller
caller processor.Halted = caller_is.Nobody
caller processor.Idle = caller_is.Nobody
caller (processor.Running t) = caller_is.Task t
caller (processor.Interrupted k over) = caller_is.Routine k

-- a routine has the processor
abbrev pub is_interrupted : Processor → Bool
is_interrupted processor.Halted = false
is_interrupted processor.Idle = false
is_interrupted (processor.Running t) = false
is_interrupted (processor.Interrupted k over) = true

-- and it is this source's
abbrev pub is_source_at : Processor → ℕ → Bool
is_source_at processor.Halted k = false
is_source_at processor.Idle k = false
is_source_at (processor.Running t) k = false
is_source_at (processor.Interrupted l over) k = l.0 == k

-- a fact of the routine that calls, if a routine calls
abbrev pub IfRoutine : Caller → (SourceNo → Type 0) → Type 0
IfRoutine caller_is.Nobody P = ⊤
IfRoutine (caller_is.Routine k) P = P k
IfRoutine (caller_is.Task t) P = ⊤

abbrev pub is_that_task : Option TaskNo → ℕ → Bool
is_that_task None t = false
is_that_task (Some u) t = u.0 == t

-- S suspended, Y ready, R running or interrupted, W waiting
abbrev pub letter_in : Processor → ℕ → Activity → Letter
letter_in p t Suspended = S
letter_in p t (Live x) = if is_that_task (task_of p) t then R else Y
letter_in p t (Waiting b) = W

abbrev pub letter_of : Processor → ℕ → TaskState → Letter
letter_of p t x = letter_in p t x.activity

abbrev pub nowhere : Place
nowhere = record { block = block_no 0; offset = 0 }

abbrev pub place_in : Activity → Place
place_in Suspended = nowhere
place_in (Live x) = x.at
place_in (Waiting b) = record { block = b; offset = 0 }

abbrev pub place_of_source : Source → Place
place_of_source source.Out = nowhere
place_of_source (source.In x) = x.at

-- it began and hasn't ended
abbrev pub is_in : Source → Bool
is_in source.Out = false
is_in (source.In x) = true

-- the resources that a routine holds, the first taken first
abbrev pub held_by_source : Source → List ResNo
held_by_source source.Out = []
held_by_source (source.In x) = x.held

module _ (s : State) where
  abbrev pub task_state : ℕ → TaskState
  task_state t = slice_index_or s.tasks t suspended

  abbrev pub with_task : ℕ → TaskState → State
  with_task t x = record s { tasks = slice_set s.tasks t x }

  -- the full set of Live tasks
  abbrev pub live_tasks : List ℕ
  live_tasks = filter (λ t. is_live (task_state t)) (range_with_len 0 (length s.tasks))

  -- the resource is on the stack of some task or routine
  abbrev pub is_taken : ℕ → Bool
  is_taken r = list_any (λ x. holds (held x) r) s.tasks || list_any (λ x. holds (held_by_source x) r) s.sources

  abbrev pub alarm_state : ℕ → AlarmState
  alarm_state a = slice_index_or s.alarms a alarm.Idle

  abbrev pub with_alarm : ℕ → AlarmState → State
  with_alarm a x = record s { alarms = slice_set s.alarms a x }

  abbrev pub counter_value : ℕ → ℕ
  counter_value c = slice_index_or s.counters c 0

  abbrev pub source_state : ℕ → Source
  source_state k = slice_index_or s.sources k source.Out

  abbrev pub with_source : ℕ → Source → State
  with_source k x = record s { sources = slice_set s.sources k x }

  -- no routine is left
  abbrev pub all_out : State
  all_out = record s { sources = map (λ _. source.Out) s.sources }

  abbrev pub is_latched : ℕ → Bool
  is_latched k = slice_index_or s.latched k false

  abbrev pub with_latch : ℕ → Bool → State
  with_latch k b = record s { latched = slice_set s.latched k b }

  abbrev pub with_processor : Processor → State
  with_processor p = record s { processor = p }

  -- where the processor stands
  abbrev pub place_by : Processor → Place
  place_by processor.Halted = nowhere
  place_by processor.Idle = nowhere
  place_by (processor.Running t) = place_in (task_state t.0).activity
  place_by (processor.Interrupted k over) = place_of_source (source_state k.0)

  abbrev pub here : Place
  here = place_by s.processor
