-- The parts of a state that a table keeps, under one index, and what each can be.
use Rattle.std.specs.Prelude.{◌≡◌, ⊤, ℕ, zero, suc, ◌+◌, ◌<◌, Bool, true, false, List, [], ◌++◌, length, map, filter, flat_map, slice_index_or, IsTrue, Some, None, is_some}
use Rattle.std.specs.List.{range_with_len}
use Rattle.osek_values.specs.{Bits.{has_bit, passing_below}, Numbers.{task_no, event_no, alarm_no, source_no}, declared.numbers.{BlockNo.{BlockNo}, ResNo.{ResNo}}}
use Rattle.osek_standard.specs.declared.{app.App.{App}, task_state.Activity.{Activity}}
use Rattle.osek_standard.specs.declared.task_state.Activity.TheVariants as activity
use Rattle.osek_standard.specs.declared.state.{State.{State}, AlarmState.{AlarmState}, Source.{Source}}
use Rattle.osek_standard.specs.declared.state.AlarmState.TheVariants as alarm
use Rattle.osek_standard.specs.declared.state.Source.TheVariants as source
use Rattle.osek_standard.specs.{Apps.{the_task, source_count, is_counter}, States.{task_state, alarm_state, source_state}, Internal.{internal_of}, declared.point.Point.{Point}}
use Rattle.osek_standard.specs.Well.{IsOwn, IsOfRoutine, IsStack, IsWaitingAt}
use Rattle.osek_standard.specs.declared.point.Point.TheVariants as point
use Rattle.abstract_state.specs.declared.value.{Val.{Val, TheVariants.{Suspended, Live, Waiting}}, LiveVal.{LiveVal}, SourceVal.{SourceVal}, RoutineVal.{RoutineVal}}
use Rattle.abstract_state.specs.declared.value.{Component.{Component}, ComponentNo.{ComponentNo}, PartValue.{PartValue, TheVariants.{OfTask, OfEvent, OfAlarm, OfSource}}}
use Rattle.abstract_state.specs.declared.value.SourceVal.TheVariants as source_val
use Rattle.abstract_state.specs.declared.value.Component.TheVariants as component

module _ (app : App) where
  -- the numbers of a task's own events
  abbrev pub own_bits : ℕ → List ℕ
  own_bits t = filter (has_bit (the_task app t).own.0) (range_with_len 0 64)

  abbrev pub events_of : ℕ → List Component
  events_of t = map (λ k. component.Event (task_no t) (event_no k)) (own_bits t)

  -- The components of an application's states: the tasks, each task's own events, the alarms, and the sources.
  abbrev pub components : List Component
  components =
      map (λ t. component.Task (task_no t)) (range_with_len 0 (length app.tasks))
      ++ flat_map events_of (range_with_len 0 (length app.tasks))
      ++ map (λ a. component.Alarm (alarm_no a)) (range_with_len 0 (length app.alarms))
      ++ map (λ k. component.Source (source_no k)) (range_with_len 0 (source_count app))

  abbrev pub component_count : ℕ
  component_count = length components

  abbrev pub component_at : ℕ → Component
  component_at c = slice_index_or components c (component.Alarm (alarm_no 0))

  -- it is one of the application's
  abbrev pub IsComponent : Component → Type 0
  IsComponent (component.Task t) = t.0 < length app.tasks
  IsComponent (component.Event t k) = (t.0 < length app.tasks) × (k.0 < 64) × IsTrue (has_bit (the_task app t.0).own.0 k.0)
  IsComponent (component.Alarm a) = a.0 < length app.alarms
  IsComponent (component.Source k) = k.0 < source_count app

  -- the components of a task's events come after those of the tasks below
  abbrev pub event_start : ℕ → ℕ
  event_start zero = 0
  event_start (suc t) = event_start t + length (events_of t)

  -- so many components come before the alarms
  abbrev pub before_alarms : ℕ
  before_alarms = length app.tasks + length (flat_map events_of (range_with_len 0 (length app.tasks)))

  -- which number a component has
  abbrev pub component_number : Component → ℕ
  component_number (component.Task t) = t.0
  component_number (component.Event t k) = length app.tasks + event_start t.0 + passing_below (has_bit (the_task app t.0).own.0) k.0
  component_number (component.Alarm a) = before_alarms + a.0
  component_number (component.Source k) = before_alarms + length app.alarms + k.0

abbrev pub component_no : ℕ → ComponentNo
component_no n = record { 0 = n }

abbrev pub live_val : BlockNo → ℕ → Bool → List ResNo → LiveVal
live_val b further inside held = record { block = b; further = further; inside = inside; held = held }

-- a task's activity without the offset in its block
abbrev pub value_in : Activity → Val
value_in activity.Suspended = Suspended
value_in (activity.Live x) = Live (live_val x.at.block x.further x.inside x.held)
value_in (activity.Waiting b) = Waiting b

abbrev pub routine_val : BlockNo → List ResNo → RoutineVal
routine_val b held = record { block = b; held = held }

-- a source without the offset in its routine's block
abbrev pub source_value : Source → SourceVal
source_value source.Out = source_val.Out
source_value (source.In x) = source_val.In (routine_val x.at.block x.held)

abbrev pub is_armed : AlarmState → Bool
is_armed alarm.Idle = false
is_armed (alarm.Armed at cycle) = true

-- what a part of a state is
abbrev pub part_of : State → Component → PartValue
part_of s (component.Task t) = OfTask (value_in (task_state s t.0).activity)
part_of s (component.Event t k) = OfEvent (has_bit (task_state s t.0).events.0 k.0)
part_of s (component.Alarm a) = OfAlarm (is_armed (alarm_state s a.0))
part_of s (component.Source k) = OfSource (source_value (source_state s k.0))

-- What component c of a state is.
abbrev pub abstract_of : App → State → ℕ → PartValue
abstract_of app s c = part_of s (component_at app c)

module _ (app : App) where
  -- a Live task stands at a block of its own, and is inside only where it names an INTERNAL resource
  pub record IsLiveVal (t : ℕ) (x : LiveVal) : Type 0 where
    pub own : IsOwn app t x.block.0
    pub further : x.further < (the_task app t).activation
    pub named : x.inside ≡ true → is_some (internal_of app t) ≡ true
    pub stack : IsStack app x.held

  -- what a task can be in a well-formed and regular state
  abbrev pub IsVal : ℕ → Val → Type 0
  IsVal t Suspended = ⊤
  IsVal t (Live x) = IsLiveVal t x
  IsVal t (Waiting b) = IsWaitingAt app t b.0

  -- Live at block b, inside where the task names an INTERNAL resource
  abbrev pub RunsAt : BlockNo → ℕ → Val → Type 0
  RunsAt b t Suspended = ⊥
  RunsAt b t (Live x) = (x.block ≡ b) × (x.inside ≡ is_some (internal_of app t))
  RunsAt b t (Waiting c) = ⊥

  -- Live, and inside where it names one
  abbrev pub IsInterruptedVal : ℕ → Val → Type 0
  IsInterruptedVal t Suspended = ⊥
  IsInterruptedVal t (Live x) = x.inside ≡ is_some (internal_of app t)
  IsInterruptedVal t (Waiting b) = ⊥

  -- the task that has the processor is Live where the point says, and the interrupted one is Live
  abbrev pub FitsPoint : Point → ℕ → Val → Type 0
  FitsPoint point.Halted t v = ⊤
  FitsPoint point.Idle t v = ⊤
  FitsPoint (point.Task b) t v = IsOwn app t b.0 → RunsAt b t v
  FitsPoint (point.Routine b None) t v = ⊤
  FitsPoint (point.Routine b (Some u)) t v = u.0 ≡ t → IsInterruptedVal t v

  -- a routine stands at a block of its own, and a tick routine holds nothing
  pub record IsRoutineVal (k : ℕ) (x : RoutineVal) : Type 0 where
    pub own : IsOfRoutine app k x.block.0
    pub stack : IsStack app x.held
    pub none : is_counter app k ≡ true → x.held ≡ []

  -- what a source can be in a well-formed state
  abbrev pub IsSourceVal : ℕ → SourceVal → Type 0
  IsSourceVal k source_val.Out = ⊤
  IsSourceVal k (source_val.In x) = IsRoutineVal k x

  -- In at block b
  abbrev pub IsInAt : BlockNo → SourceVal → Type 0
  IsInAt b source_val.Out = ⊥
  IsInAt b (source_val.In x) = x.block ≡ b

  -- where no routine has the processor all sources are Out, and the one that has it is In where the point says; any other
  -- may be In beside it
  abbrev pub SourceFitsPoint : Point → ℕ → SourceVal → Type 0
  SourceFitsPoint point.Halted k v = v ≡ source_val.Out
  SourceFitsPoint point.Idle k v = v ≡ source_val.Out
  SourceFitsPoint (point.Task b) k v = v ≡ source_val.Out
  SourceFitsPoint (point.Routine b over) k v = IsOfRoutine app k b.0 → IsInAt b v

  abbrev pub IsPart : Point → Component → PartValue → Type 0
  IsPart p (component.Task t) (OfTask v) = IsVal t.0 v × FitsPoint p t.0 v
  IsPart p (component.Event t k) (OfEvent b) = ⊤
  IsPart p (component.Alarm a) (OfAlarm b) = ⊤
  IsPart p (component.Source k) (OfSource v) = IsSourceVal k.0 v × SourceFitsPoint p k.0 v
  IsPart p (component.Task t) (OfEvent b) = ⊥
  IsPart p (component.Task t) (OfAlarm b) = ⊥
  IsPart p (component.Task t) (OfSource v) = ⊥
  IsPart p (component.Event t k) (OfTask v) = ⊥
  IsPart p (component.Event t k) (OfAlarm b) = ⊥
  IsPart p (component.Event t k) (OfSource v) = ⊥
  IsPart p (component.Alarm a) (OfTask v) = ⊥
  IsPart p (component.Alarm a) (OfEvent b) = ⊥
  IsPart p (component.Alarm a) (OfSource v) = ⊥
  IsPart p (component.Source k) (OfTask v) = ⊥
  IsPart p (component.Source k) (OfEvent b) = ⊥
  IsPart p (component.Source k) (OfAlarm b) = ⊥

  -- What component c can be in a well-formed and regular state at a point.
  abbrev pub IsAllowed : Point → ℕ → PartValue → Type 0
  IsAllowed p c v = IsPart p (component_at app c) v
