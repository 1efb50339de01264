-- States by their parts: one value for each component, and a choice of all that a table doesn't keep.
use Rattle.std.specs.Prelude.{◌≡◌, ⊤, ℕ, zero, suc, ◌+◌, ◌*◌, ◌<◌, ◌≤◌, Bool, true, false, ◌&&◌, ◌==◌, nat_lt, List, length, map, if◌then◌else◌, slice_index_or, IfSome}
use Rattle.std.specs.{List.{range_with_len, count_by}, declared.option.Option.{Option}}
use Rattle.osek_values.specs.{Numbers.{task_no, event_no, alarm_no, source_no, mask}, declared.numbers.{TaskNo.{TaskNo}, BlockNo.{BlockNo}, ModeNo.{ModeNo}, SourceNo.{SourceNo}}}
use Rattle.osek_values.specs.Bits.{has_bit}
use Rattle.osek_standard.specs.declared.{app.App.{App}, task_state.{TaskState.{TaskState}, Activity.{Activity}}}
use Rattle.osek_standard.specs.declared.task_state.Activity.TheVariants as activity
use Rattle.osek_standard.specs.declared.state.{State.{State}, AlarmState.{AlarmState}, Source.{Source}, Processor.{Processor}}
use Rattle.osek_standard.specs.declared.state.AlarmState.TheVariants as alarm
use Rattle.osek_standard.specs.declared.state.Source.TheVariants as source
use Rattle.osek_standard.specs.declared.state.Processor.TheVariants as processor
use Rattle.osek_standard.specs.{Apps.{the_task, the_counter, the_block, source_count}, States.{task_of}, Line.{places_due}, Effects.{place_at}, Well.{Well, IsOwn, IsOfRoutine, IsOffsetAt, IsArmed}}
use Rattle.osek_standard.specs.declared.point.Point.{Point}
use Rattle.osek_standard.specs.declared.point.Point.TheVariants as point
use Rattle.abstract_state.specs.declared.value.{Val.{Val, TheVariants.{Suspended, Live, Waiting}}, LiveVal.{LiveVal}, SourceVal.{SourceVal}, RoutineVal.{RoutineVal}}
use Rattle.abstract_state.specs.declared.value.PartValue.{PartValue, TheVariants.{OfTask, OfEvent, OfAlarm, OfSource}}
use Rattle.abstract_state.specs.declared.value.SourceVal.TheVariants as source_val
use Rattle.abstract_state.specs.declared.value.Component.TheVariants as component
use Rattle.osek_standard.specs.Points.{point_of}
use Rattle.abstract_state.specs.{Components.{component_count, component_number, abstract_of, IsAllowed}, Regular.{IsRegular}}

-- all of a state that a table doesn't keep, and whose block the point's is
pub record Free : Type 0 where
  pub mode : ModeNo
  pub counters : List ℕ
  pub latched : List Bool
  -- the task that stands at the point, or the source whose routine does
  pub task : TaskNo
  pub source : SourceNo
  -- how far the routine of each source that is In, and each Live task, is in its block
  pub routine_offset : ℕ → ℕ
  pub offset : ℕ → ℕ
  -- when each armed alarm expires, and its cycle
  pub due : ℕ → ℕ
  pub cycle : ℕ → ℕ
  -- the tasks that are to run, in order
  pub line : List TaskNo

abbrev pub val_of : PartValue → Val
val_of (OfTask v) = v
val_of (OfEvent b) = Suspended
val_of (OfAlarm b) = Suspended
val_of (OfSource v) = Suspended

abbrev pub flag_of : PartValue → Bool
flag_of (OfTask v) = false
flag_of (OfEvent b) = b
flag_of (OfAlarm b) = b
flag_of (OfSource v) = false

abbrev pub source_val_of : PartValue → SourceVal
source_val_of (OfTask v) = source_val.Out
source_val_of (OfEvent b) = source_val.Out
source_val_of (OfAlarm b) = source_val.Out
source_val_of (OfSource v) = v

abbrev pub activity_of : Val → ℕ → Activity
activity_of Suspended o = activity.Suspended
activity_of (Live x) o = activity.Live (record { at = place_at x.block o; held = x.held; further = x.further; inside = x.inside })
activity_of (Waiting b) o = activity.Waiting b

abbrev pub alarm_of : Bool → ℕ → ℕ → AlarmState
alarm_of false at cycle = alarm.Idle
alarm_of true at cycle = alarm.Armed at cycle

abbrev pub source_of : SourceVal → ℕ → Source
source_of source_val.Out o = source.Out
source_of (source_val.In x) o = source.In (record { at = place_at x.block o; held = x.held })

-- the value of a source
abbrev pub value_of_source : App → (ℕ → PartValue) → ℕ → PartValue
value_of_source app value k = value (component_number app (component.Source (source_no k)))

-- the number of so many bits whose bit k is set where the test passes
abbrev pub bits_number : (ℕ → Bool) → ℕ → ℕ
bits_number test zero = 0
bits_number test (suc w) = (if test 0 then 1 else 0) + 2 * bits_number (λ k. test (suc k)) w

module _ (app : App) (p : Point) (value : ℕ → PartValue) (free : Free) where
  abbrev pub event_chosen : ℕ → ℕ → Bool
  event_chosen t k = has_bit (the_task app t).own.0 k && flag_of (value (component_number app (component.Event (task_no t) (event_no k))))

  abbrev pub task_chosen : ℕ → TaskState
  task_chosen t = record { activity = activity_of (val_of (value t)) (free.offset t); events = mask (bits_number (event_chosen t) 64) }

  abbrev pub alarm_chosen : ℕ → AlarmState
  alarm_chosen a = alarm_of (flag_of (value (component_number app (component.Alarm (alarm_no a))))) (free.due a) (free.cycle a)

  abbrev pub source_chosen : ℕ → Source
  source_chosen k = source_of (source_val_of (value_of_source app value k)) (free.routine_offset k)

  abbrev pub processor_by : Point → Processor
  processor_by point.Halted = processor.Halted
  processor_by point.Idle = processor.Idle
  processor_by (point.Task b) = processor.Running free.task
  processor_by (point.Routine b over) = processor.Interrupted free.source over

  -- how often task t has to stand in the line
  abbrev pub places_wanted : ℕ → ℕ
  places_wanted t = if nat_lt t (length app.tasks) then places_due (task_of (processor_by p)) t (activity_of (val_of (value t)) 0) else 0

  -- The state at a point with these values of its components, all else as chosen.
  abbrev pub state_of : State
  state_of = record {
    mode = free.mode;
    processor = processor_by p;
    tasks = map task_chosen (range_with_len 0 (length app.tasks));
    counters = free.counters;
    alarms = map alarm_chosen (range_with_len 0 (length app.alarms));
    sources = map source_chosen (range_with_len 0 (source_count app));
    latched = free.latched;
    line = free.line;
  }

  -- the source's routine has the block, and may stand there
  pub record IsRoutineAt (b : BlockNo) (over : Option TaskNo) : Type 0 where
    pub known : free.source.0 < source_count app
    pub own : IsOfRoutine app free.source.0 b.0
    pub interrupted : IfSome over (λ t. t.0 < length app.tasks)

  abbrev pub StandsThere : Point → Type 0
  StandsThere point.Halted = ⊤
  StandsThere point.Idle = ⊤
  StandsThere (point.Task b) = (free.task.0 < length app.tasks) × IsOwn app free.task.0 b.0
  StandsThere (point.Routine b over) = IsRoutineAt b over

  -- a choice that well-formedness allows
  pub record IsFree : Type 0 where
    pub mode : free.mode.0 < length app.modes
    pub counters_len : length free.counters ≡ length app.counters
    pub counters : (c : ℕ) → c < length app.counters → slice_index_or free.counters c 0 ≤ (the_counter app c).max
    pub latched_len : length free.latched ≡ source_count app
    pub stands : StandsThere p
    pub offsets : (t : ℕ) (x : LiveVal) → t < length app.tasks → value t ≡ OfTask (Live x) → IsOffsetAt (the_block app x.block.0).kind (free.offset t)
    pub routine_offsets : (k : ℕ) (x : RoutineVal) → k < source_count app → value_of_source app value k ≡ OfSource (source_val.In x) → IsOffsetAt (the_block app x.block.0).kind (free.routine_offset k)
    pub alarms : (a : ℕ) → a < length app.alarms → IsArmed app a (free.due a) (free.cycle a)
    -- each task stands there as often as it has to
    pub line : (t : ℕ) → count_by (λ (n : TaskNo). n.0 == t) free.line ≡ places_wanted t

-- each component's value is one that it can have at the point
abbrev pub AreAllowed : App → Point → (ℕ → PartValue) → Type 0
AreAllowed app p value = (c : ℕ) → c < component_count app → IsAllowed app p c (value c)

-- a well-formed state at the point, with these values
pub record HasParts (app : App) (p : Point) (value : ℕ → PartValue) (s : State) : Type 0 where
  pub well : Well app s
  pub regular : IsRegular app s
  pub point : point_of s ≡ p
  pub parts : (c : ℕ) → c < component_count app → abstract_of app s c ≡ value c
