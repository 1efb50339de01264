-- The states that the kernel can be in, for an application.
use Rattle.std.specs.{Prelude.{◌≡◌, ⊤, ℕ, ◌<◌, ◌≤◌, Bool, nat_eq, bit_and, List, length, All, IsTrue, IfSome, true, not, []}, List.{IsDistinct}, declared.option.Option.{Option}}
use Rattle.osek_values.specs.declared.numbers.{TaskNo.{TaskNo}, ResNo.{ResNo}, SourceNo.{SourceNo}}
use Rattle.osek_standard.specs.declared.{app.App.{App}, block.Kind.{Kind}}
use Rattle.osek_standard.specs.declared.state.{State.{State}, AlarmState.{AlarmState, TheVariants.{Idle, Armed}}, Source.{Source}, Processor.{Processor}, RoutineStanding.{RoutineStanding}}
use Rattle.osek_standard.specs.declared.task_state.{TaskState.{TaskState}, Activity.{Activity, TheVariants.{Suspended, Live, Waiting}}, Standing.{Standing}}
use Rattle.osek_standard.specs.Validity.{IsAmong, is_internal}
use Rattle.osek_standard.specs.Apps.{the_task, the_counter, the_block, is_extended, source_count, routine_start, routine_count, max_of, is_cycle, is_counter}
use Rattle.osek_standard.specs.{TaskStates.{is_live}, States.{task_state, alarm_state, counter_value, source_state, task_of}, Line.{places, places_due}}
use Rattle.osek_standard.specs.CallNames as call
use Rattle.osek_standard.specs.declared.block.Kind.TheVariants as kind
use Rattle.osek_standard.specs.declared.state.Source.TheVariants as source
use Rattle.osek_standard.specs.declared.state.Processor.TheVariants as processor

-- an offset counts the instructions of `work n` that are done, and is 0 elsewhere
abbrev pub IsOffsetAt : Kind → ℕ → Type 0
IsOffsetAt (kind.Work n) o = o < n
IsOffsetAt _ o = o ≡ 0

abbrev pub IsWaitEvent : Kind → Type 0
IsWaitEvent (kind.Call (call.Mask call.WaitEvent m)) = ⊤
IsWaitEvent _ = ⊥

abbrev pub same_resource : ResNo → ResNo → Bool
same_resource q r = nat_eq q.0 r.0

-- distinct resources out of so many
pub record IsStackOutOf (resources : ℕ) (stack : List ResNo) : Type 0 where
  pub distinct : IsDistinct same_resource stack
  pub known : All (λ (r : ResNo). r.0 < resources) stack

module _ (app : App) where
  -- a stack names resources that aren't INTERNAL, none of them twice
  pub record IsStack (stack : List ResNo) : Type 0 where
    pub out_of : IsStackOutOf (length app.resources) stack
    pub takable : All (λ (r : ResNo). IsTrue (not (is_internal app.resources r.0))) stack

  -- block b is the task's own
  abbrev pub IsOwn : ℕ → ℕ → Type 0
  IsOwn t b = IsAmong b (the_task app t).first.0 (the_task app t).count

  pub record IsStandingOf (t : ℕ) (x : Standing) : Type 0 where
    pub own : IsOwn t x.at.block.0
    pub offset : IsOffsetAt (the_block app x.at.block.0).kind x.at.offset
    pub stack : IsStack x.held
    pub further : x.further < (the_task app t).activation

  -- an extended task waits at a WaitEvent block of its own
  pub record IsWaitingAt (t b : ℕ) : Type 0 where
    pub own : IsOwn t b
    pub extended : IsTrue (is_extended app t)
    pub wait : IsWaitEvent (the_block app b).kind

  abbrev pub IsActivityOf : ℕ → Activity → Type 0
  IsActivityOf t Suspended = ⊤
  IsActivityOf t (Live x) = IsStandingOf t x
  IsActivityOf t (Waiting b) = IsWaitingAt t b.0

  pub record IsTaskState (t : ℕ) (x : TaskState) : Type 0 where
    pub activity : IsActivityOf t x.activity
    -- its events are of its own event bits
    pub events : bit_and x.events.0 (the_task app t).own.0 ≡ x.events.0

  pub record IsArmed (a at cycle : ℕ) : Type 0 where
    pub at_most : at ≤ max_of app a
    pub round : IsTrue (is_cycle app a cycle)

  abbrev pub IsAlarmState : ℕ → AlarmState → Type 0
  IsAlarmState a Idle = ⊤
  IsAlarmState a (Armed at cycle) = IsArmed a at cycle

  -- a task that runs or is interrupted is Live
  abbrev pub HasProcessor : State → TaskNo → Type 0
  HasProcessor s t = (t.0 < length app.tasks) × IsTrue (is_live (task_state s t.0))

  -- block b is one of the routine of source k
  abbrev pub IsOfRoutine : ℕ → ℕ → Type 0
  IsOfRoutine k b = IsAmong b (routine_start app k).0 (routine_count app k)

  -- a routine stands at a block of its own, and a tick routine holds nothing
  pub record IsRoutineStandingOf (k : ℕ) (x : RoutineStanding) : Type 0 where
    pub own : IsOfRoutine k x.at.block.0
    pub offset : IsOffsetAt (the_block app x.at.block.0).kind x.at.offset
    pub stack : IsStack x.held
    pub none : is_counter app k ≡ true → x.held ≡ []

  abbrev pub IsSourceState : ℕ → Source → Type 0
  IsSourceState k source.Out = ⊤
  IsSourceState k (source.In x) = IsRoutineStandingOf k x

  abbrev pub IsRunningAt : ℕ → Source → Type 0
  IsRunningAt k source.Out = ⊥
  IsRunningAt k (source.In x) = IsRoutineStandingOf k x

  -- the source at the processor runs, and others may be in too
  pub record IsRoutine (s : State) (k : SourceNo) (task : Option TaskNo) : Type 0 where
    pub known : k.0 < source_count app
    pub runs : IsRunningAt k.0 (source_state s k.0)
    pub others : (l : ℕ) → IsSourceState l (source_state s l)
    pub over : IfSome task (HasProcessor s)

  abbrev pub AreOut : State → Type 0
  AreOut s = (k : ℕ) → source_state s k ≡ source.Out

  pub record IsTaskLevel (s : State) (t : TaskNo) : Type 0 where
    pub running : HasProcessor s t
    pub out : AreOut s

  abbrev pub IsProcessor : State → Processor → Type 0
  IsProcessor s processor.Halted = AreOut s
  IsProcessor s processor.Idle = AreOut s
  IsProcessor s (processor.Running t) = IsTaskLevel s t
  IsProcessor s (processor.Interrupted k over) = IsRoutine s k over

  -- A well-formed state of an application.
  pub record Well (s : State) : Type 0 where
    pub mode : s.mode.0 < length app.modes
    pub tasks_len : length s.tasks ≡ length app.tasks
    pub counters_len : length s.counters ≡ length app.counters
    pub alarms_len : length s.alarms ≡ length app.alarms
    pub sources_len : length s.sources ≡ source_count app
    pub latched_len : length s.latched ≡ source_count app
    pub tasks : (t : ℕ) → t < length app.tasks → IsTaskState t (task_state s t)
    pub counters : (c : ℕ) → c < length app.counters → counter_value s c ≤ (the_counter app c).max
    pub alarms : (a : ℕ) → a < length app.alarms → IsAlarmState a (alarm_state s a)
    pub processor : IsProcessor s s.processor
    -- each Live task has its places in the line, and no other task has one
    pub line : (t : ℕ) → places s t ≡ places_due (task_of s.processor) t (task_state s t).activity

-- A task or a routine has the processor.
abbrev pub IsActive : Processor → Type 0
IsActive processor.Halted = ⊥
IsActive processor.Idle = ⊥
IsActive (processor.Running t) = ⊤
IsActive (processor.Interrupted k over) = ⊤

-- b is a block of the owner of the caller
abbrev pub InOwner : App → Processor → ℕ → Type 0
InOwner app processor.Halted b = ⊥
InOwner app processor.Idle b = ⊥
InOwner app (processor.Running t) b = IsOwn app t.0 b
InOwner app (processor.Interrupted k over) b = IsOfRoutine app k.0 b
