-- Other choices of what a table doesn't keep, and the states that they give.
use Rattle.std.specs.Prelude.{◌≡◌, ℕ, ◌<◌, ◌≤◌, Bool, true, false, ◌==◌, nat_lt, List, ◌∷◌, slice_set, if◌then◌else◌, Some, None}
use Rattle.std.specs.List.{count_by}
use Rattle.osek_values.specs.{Numbers.{task_no, alarm_no, source_no}, declared.numbers.{TaskNo.{TaskNo}, BlockNo.{BlockNo}}, Line.{place_in_line, without_first}}
use Rattle.osek_standard.specs.declared.{app.App.{App}, state.State.{State}}
use Rattle.osek_standard.specs.declared.state.AlarmState.TheVariants as alarm
use Rattle.osek_standard.specs.{Apps.{the_alarm, source_priority}, States.{alarm_state, counter_value, here}, Effects.{place_at}, Arrivals.{arrival, takes_none}, Levels.{level}, Line.{places}}
use Rattle.osek_standard.specs.declared.point.Point.{Point}
use Rattle.abstract_state.specs.declared.value.PartValue.{PartValue, TheVariants.{OfAlarm}}
use Rattle.abstract_state.specs.declared.value.Component.TheVariants as component
use Rattle.abstract_state.specs.{Components.{component_number}, Concrete.{Free, HasParts}}

abbrev pub with_latches : Free → List Bool → Free
with_latches free latched = record free { latched = latched }

-- a Live task stands so far in its block
abbrev pub with_offset : Free → ℕ → ℕ → Free
with_offset free t o = record free { offset = λ u. if u == t then o else free.offset u }

-- and so does the routine of a source that is In
abbrev pub with_routine_offset : Free → ℕ → ℕ → Free
with_routine_offset free k o = record free { routine_offset = λ l. if l == k then o else free.routine_offset l }

-- an alarm, where it is armed, expires at this time, and has this cycle
abbrev pub with_arming : Free → ℕ → ℕ → ℕ → Free
with_arming free a at cycle = record free { due = λ b. if b == a then at else free.due b; cycle = λ b. if b == a then cycle else free.cycle b }

abbrev pub with_counter : Free → ℕ → ℕ → Free
with_counter free c x = record free { counters = slice_set free.counters c x }

-- a task that stands in a line comes first
abbrev pub first_of_line : ℕ → List TaskNo → List TaskNo
first_of_line t line = if nat_lt 0 (count_by (λ (n : TaskNo). n.0 == t) line) then task_no t ∷ without_first line t else line

abbrev pub with_first : Free → ℕ → Free
with_first free t = record free { line = first_of_line t free.line }

-- a task comes first in the line of a state, if it stands there
abbrev pub IsFirstIfThere : ℕ → State → Type 0
IsFirstIfThere t s = 0 < places s t → place_in_line s.line t ≡ 0

module _ (app : App) (p : Point) (value : ℕ → PartValue) where
  -- a well-formed state at the point, with these values, in which no routine begins, and task t comes first in the line if
  -- it stands there
  pub record IsQuietState (t : ℕ) (s : State) : Type 0 where
    pub has : HasParts app p value s
    pub quiet : arrival app s ≡ None
    pub first : IsFirstIfThere t s

  -- and the processor stands so far in its block
  pub record IsQuietAt (t : ℕ) (b : BlockNo) (o : ℕ) (s : State) : Type 0 where
    pub has : HasParts app p value s
    pub quiet : arrival app s ≡ None
    pub first : IsFirstIfThere t s
    pub stands : here s ≡ place_at b o

  -- and the counter of an alarm stands at this value, and the alarm, where it is armed, has this time and cycle
  pub record IsQuietWith (t a at cycle now : ℕ) (s : State) : Type 0 where
    pub has : HasParts app p value s
    pub quiet : arrival app s ≡ None
    pub first : IsFirstIfThere t s
    pub counter : counter_value s (the_alarm app a).counter.0 ≡ now
    pub armed : value (component_number app (component.Alarm (alarm_no a))) ≡ OfAlarm true → alarm_state s a ≡ alarm.Armed at cycle

  -- a well-formed state at the point, with these values, in which this source's routine begins if one may
  pub record IsLatchedAlone (k : ℕ) (s : State) : Type 0 where
    pub has : HasParts app p value s
    pub arrives : takes_none app s ≡ false → level app s ≤ source_priority app k → arrival app s ≡ Some (source_no k)
