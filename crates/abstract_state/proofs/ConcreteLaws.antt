-- Values that the components can have at a point, one each, make a well-formed state there.
use Rattle.std.proofs.Common.{◌≡◌, ℕ, ◌<◌, ◌≤◌, Bool, true, false, ◌&&◌, nat_lt, length, map, replicate, get_or, refl, sym, ap, subst, ◌∙◌, inl, inr, arith, Some, None, IfSome}
use Rattle.std.proofs.lemmas.Bool.{cases_lt, and_parts, eqb-true, false≢true, Decides.{nat_tests}}
use Rattle.std.proofs.lemmas.List.{get_or_past, get_or-replicate, length-replicate, FromFn.{length-map-range_with_len, get_or-map-range_with_len}}
use Rattle.std.specs.{Prelude.{if◌then◌else◌, is_some}, List.{range_with_len}, declared.option.Option.{Option}}
use Rattle.osek_values.specs.{Numbers.{task_no, source_no, mode_no, event_no, alarm_no}, declared.numbers.{TaskNo.{TaskNo}, BlockNo.{BlockNo}, SourceNo.{SourceNo}}, Bits.{has_bit}}
use Rattle.osek_standard.specs.declared.{app.App.{App}, task_state.{TaskState.{TaskState}, Place.{Place}}, state.{Source.{Source}, AlarmState.{AlarmState}}, point.Point.{Point}}
use Rattle.osek_standard.specs.{Apps.{the_task, the_counter, the_block, source_count}, TaskStates.{suspended, is_inside, is_inside_in, is_live, is_live_activity}, Internal.{IsInside, internal_of}}
use Rattle.osek_standard.specs.{States.{task_of, task_state, source_state, alarm_state, is_that_task, place_in, place_of_source}, Effects.{place_at}, Line.{places_due}}
use Rattle.osek_standard.specs.{Well.{HasProcessor, IsActivityOf, IsAlarmState, IsArmed, IsOffsetAt, IsProcessor, IsRunningAt, IsSourceState, IsTaskState}, Points.{point_of, IsPoint}}
use Rattle.osek_standard.specs.declared.state.Source.TheVariants as source
use Rattle.osek_standard.specs.declared.state.AlarmState.TheVariants as alarm
use Rattle.osek_standard.specs.declared.point.Point.TheVariants as point
use Rattle.osek_standard.proofs.WellLaws.{own_block, routine_block, offset_0}
use Rattle.osek_standard.proofs.PlaceLaws.{places_in}
use Rattle.abstract_state.specs.declared.value.{Val.{Val, TheVariants.{Suspended, Live, Waiting}}, LiveVal.{LiveVal}, SourceVal.{SourceVal}, RoutineVal.{RoutineVal}, Component.{Component}}
use Rattle.abstract_state.specs.declared.value.PartValue.{PartValue, TheVariants.{OfTask, OfEvent, OfAlarm, OfSource}}
use Rattle.abstract_state.specs.declared.value.SourceVal.TheVariants as source_val
use Rattle.abstract_state.specs.Components.{component_at, component_count, component_number, value_in, source_value, is_armed, abstract_of, part_of, IsComponent, IsVal}
use Rattle.abstract_state.specs.Components.{RunsAt, IsInterruptedVal, FitsPoint, IsSourceVal, IsInAt, SourceFitsPoint, IsPart}
use Rattle.abstract_state.specs.Concrete.{Free, val_of, flag_of, source_val_of, activity_of, alarm_of, source_of, value_of_source, event_chosen, task_chosen, alarm_chosen, source_chosen}
use Rattle.abstract_state.specs.Concrete.{processor_by, state_of, StandsThere, IsFree, IsRoutineAt, AreAllowed, HasParts, places_wanted}
use Rattle.abstract_state.specs.declared.value.Component.TheVariants as component
use Rattle.abstract_state.proofs.{ComponentLaws.{component_known, component_numbered, task_counted, task_at_its_number}, Numbers.{component_here, number_known}, BitLaws.{has_bit_of_number, number_within}, RepeatedLines.{repeated_line, repeated_counted}}

-- values, and what is made of them
value_of_activity : (v : Val) (o : ℕ) → value_in (activity_of v o) ≡ v
value_of_activity Suspended o = refl
value_of_activity (Live x) o = refl
value_of_activity (Waiting b) o = refl

module _ (app : App) (t : ℕ) where
  live_value : (v : Val) (o : ℕ) → IsInterruptedVal app t v → is_live_activity (activity_of v o) ≡ true
  live_value Suspended o h = absurd h
  live_value (Live x) o h = refl
  live_value (Waiting b) o h = absurd h

  live_at_value : (b : BlockNo) (v : Val) → RunsAt app b t v → IsInterruptedVal app t v
  live_at_value b Suspended h = h
  live_at_value b (Live x) h = h.1
  live_at_value b (Waiting c) h = h

  place_of_value : (b : BlockNo) (v : Val) (o : ℕ) → RunsAt app b t v → (place_in (activity_of v o)).block ≡ b
  place_of_value b Suspended o h = absurd h
  place_of_value b (Live x) o h = h.0
  place_of_value b (Waiting c) o h = absurd h

  -- a value and its flag
  inside_named : (v : Val) (o : ℕ) → IsVal app t v → is_inside_in (activity_of v o) ≡ true → is_some (internal_of app t) ≡ true
  inside_named Suspended o h e = absurd (false≢true e)
  inside_named (Live x) o h e = h.named e
  inside_named (Waiting b) o h e = absurd (false≢true e)

  inside_right : (v : Val) (o : ℕ) → IsInterruptedVal app t v → is_inside_in (activity_of v o) ≡ is_some (internal_of app t)
  inside_right Suspended o h = absurd h
  inside_right (Live x) o h = h
  inside_right (Waiting b) o h = absurd h

-- a source's value, and what is made of it
value_of_routine : (v : SourceVal) (o : ℕ) → source_value (source_of v o) ≡ v
value_of_routine source_val.Out o = refl
value_of_routine (source_val.In x) o = refl

module _ (app : App) where
  running_there : (k : ℕ) (b : BlockNo) (v : SourceVal) (o : ℕ) → IsInAt app b v → IsSourceState app k (source_of v o) → IsRunningAt app k (source_of v o)
  running_there k b source_val.Out o there h = absurd there
  running_there k b (source_val.In x) o there h = h

  pub place_of_in : (b : BlockNo) (v : SourceVal) (o : ℕ) → IsInAt app b v → place_of_source (source_of v o) ≡ place_at b o
  place_of_in b source_val.Out o there = absurd there
  place_of_in b (source_val.In x) o there = ap (λ (c : BlockNo). place_at c o) there

armed_flag : (b : Bool) (at cycle : ℕ) → is_armed (alarm_of b at cycle) ≡ b
armed_flag true at cycle = refl
armed_flag false at cycle = refl

live_part : (x : PartValue) (l : LiveVal) → val_of x ≡ Live l → x ≡ OfTask (Live l)
live_part (OfTask v) l e = ap OfTask e
live_part (OfEvent f) l e = absurd (cc)
live_part (OfAlarm f) l e = absurd (cc)
live_part (OfSource v) l e = absurd (cc)

in_part : (x : PartValue) (r : RoutineVal) → source_val_of x ≡ source_val.In r → x ≡ OfSource (source_val.In r)
in_part (OfTask v) r e = absurd (cc)
in_part (OfEvent f) r e = absurd (cc)
in_part (OfAlarm f) r e = absurd (cc)
in_part (OfSource v) r e = ap OfSource e

module _ (app : App) (p : Point) where
  task_part : (t : TaskNo) (x : PartValue) → IsPart app p (component.Task t) x → OfTask (val_of x) ≡ x
  task_part t (OfTask v) h = refl
  task_part t (OfEvent f) h = absurd h
  task_part t (OfAlarm f) h = absurd h
  task_part t (OfSource v) h = absurd h

  event_part : (t : TaskNo) (x : PartValue) → (k : _) → IsPart app p (component.Event t k) x → OfEvent (flag_of x) ≡ x
  event_part t (OfTask v) k h = absurd h
  event_part t (OfEvent f) k h = refl
  event_part t (OfAlarm f) k h = absurd h
  event_part t (OfSource v) k h = absurd h

  alarm_part : (x : PartValue) → (a : _) → IsPart app p (component.Alarm a) x → OfAlarm (flag_of x) ≡ x
  alarm_part (OfTask v) a h = absurd h
  alarm_part (OfEvent f) a h = absurd h
  alarm_part (OfAlarm f) a h = refl
  alarm_part (OfSource v) a h = absurd h

  source_part : (x : PartValue) → (k : _) → IsPart app p (component.Source k) x → OfSource (source_val_of x) ≡ x
  source_part (OfTask v) k h = absurd h
  source_part (OfEvent f) k h = absurd h
  source_part (OfAlarm f) k h = absurd h
  source_part (OfSource v) k h = refl

  val_part : (t : TaskNo) (x : PartValue) → IsPart app p (component.Task t) x → IsVal app t.0 (val_of x) × FitsPoint app p t.0 (val_of x)
  val_part t (OfTask v) h = h
  val_part t (OfEvent f) h = absurd h
  val_part t (OfAlarm f) h = absurd h
  val_part t (OfSource v) h = absurd h

  source_val_part : (k : SourceNo) (x : PartValue) → IsPart app p (component.Source k) x → IsSourceVal app k.0 (source_val_of x) × SourceFitsPoint app p k.0 (source_val_of x)
  source_val_part k (OfTask v) h = absurd h
  source_val_part k (OfEvent f) h = absurd h
  source_val_part k (OfAlarm f) h = absurd h
  source_val_part k (OfSource v) h = h

  activity_right : (t : ℕ) (v : Val) (o : ℕ) → IsVal app t v → ((x : LiveVal) → v ≡ Live x → IsOffsetAt (the_block app x.block.0).kind o) → IsActivityOf app t (activity_of v o)
  activity_right t Suspended o h offset = tt
  activity_right t (Live x) o h offset = record { own = h.own; offset = offset x refl; stack = h.stack; further = h.further }
  activity_right t (Waiting b) o h offset = h

  routine_right : (k : ℕ) (v : SourceVal) (o : ℕ) → IsSourceVal app k v → ((x : RoutineVal) → v ≡ source_val.In x → IsOffsetAt (the_block app x.block.0).kind o) → IsSourceState app k (source_of v o)
  routine_right k source_val.Out o h offset = tt
  routine_right k (source_val.In x) o h offset = record { own = h.own; offset = offset x refl; stack = h.stack; none = h.none }

  alarm_right : (a : ℕ) (b : Bool) (at cycle : ℕ) → IsArmed app a at cycle → IsAlarmState app a (alarm_of b at cycle)
  alarm_right a true at cycle h = h
  alarm_right a false at cycle h = tt

  module _ (value : ℕ → PartValue) (allowed : AreAllowed app p value) where
    allowed_task : (t : ℕ) → t < length app.tasks → IsPart app p (component.Task (task_no t)) (value t)
    allowed_task t lt = subst (λ (x : Component). IsPart app p x (value t)) (task_at_its_number app t lt) (allowed t (task_counted app t lt))

    pub val_right : (t : ℕ) → t < length app.tasks → IsVal app t (val_of (value t)) × FitsPoint app p t (val_of (value t))
    val_right t lt = val_part (task_no t) (value t) (allowed_task t lt)

    allowed_source : (k : ℕ) → k < source_count app → IsPart app p (component.Source (source_no k)) (value_of_source app value k)
    allowed_source k lt =
        let x : Component = component.Source (source_no k) in
        subst (λ (y : Component). IsPart app p y (value_of_source app value k)) (component_here app x lt) (allowed (component_number app x) (number_known app x lt))

    pub source_val_right : (k : ℕ) → k < source_count app → IsSourceVal app k (source_val_of (value_of_source app value k)) × SourceFitsPoint app p k (source_val_of (value_of_source app value k))
    source_val_right k lt = source_val_part (source_no k) (value_of_source app value k) (allowed_source k lt)

  module _ (value : ℕ → PartValue) (free : Free) where
    pub task_is : (t : ℕ) → t < length app.tasks → task_state (state_of app p value free) t ≡ task_chosen app p value free t
    task_is t lt = get_or-map-range_with_len (task_chosen app p value free) 0 (length app.tasks) t t suspended lt (omega arith)

    pub alarm_is : (a : ℕ) → a < length app.alarms → alarm_state (state_of app p value free) a ≡ alarm_chosen app p value free a
    alarm_is a lt = get_or-map-range_with_len (alarm_chosen app p value free) 0 (length app.alarms) a a alarm.Idle lt (omega arith)

    pub source_is : (k : ℕ) → k < source_count app → source_state (state_of app p value free) k ≡ source_chosen app p value free k
    source_is k lt = get_or-map-range_with_len (source_chosen app p value free) 0 (source_count app) k k source.Out lt (omega arith)

    -- a source that isn't there
    source_past : (k : ℕ) → source_count app ≤ k → source_state (state_of app p value free) k ≡ source.Out
    source_past k past =
        let long = length-map-range_with_len (source_chosen app p value free) 0 (source_count app) in
        get_or_past (map (source_chosen app p value free) (range_with_len 0 (source_count app))) k source.Out (omega (arith, past, long))

    -- where the values are so, all are out
    all_are_out : ((k : ℕ) → k < source_count app → source_val_of (value_of_source app value k) ≡ source_val.Out) → (k : ℕ) → source_state (state_of app p value free) k ≡ source.Out
    all_are_out out k = elim (cases_lt k (source_count app)) [
      | inl below ↦ source_is k below ∙ ap (λ (v : SourceVal). source_of v (free.routine_offset k)) (out k below)
      | inr past ↦ source_past k past
    ]

    live_chosen : (t : ℕ) → t < length app.tasks → IsInterruptedVal app t (val_of (value t)) → is_live (task_state (state_of app p value free) t) ≡ true
    live_chosen t lt h = ap (λ (x : TaskState). is_live x) (task_is t lt) ∙ live_value app t (val_of (value t)) (free.offset t) h

    -- a task with the flag that it has to have
    flag_chosen : (t : ℕ) → t < length app.tasks → IsInterruptedVal app t (val_of (value t)) → is_inside (task_state (state_of app p value free) t) ≡ is_some (internal_of app t)
    flag_chosen t lt h = ap (λ (x : TaskState). is_inside x) (task_is t lt) ∙ inside_right app t (val_of (value t)) (free.offset t) h

    -- a task that isn't there
    none_chosen : (t : ℕ) → length app.tasks ≤ t → task_state (state_of app p value free) t ≡ suspended
    none_chosen t past =
        let long = length-map-range_with_len (task_chosen app p value free) 0 (length app.tasks) in
        get_or_past (map (task_chosen app p value free) (range_with_len 0 (length app.tasks))) t suspended (omega (arith, past, long))

    module _ (allowed : AreAllowed app p value) (chosen : IsFree app p value free) where
      task_right : (t : ℕ) → t < length app.tasks → IsTaskState app t (task_chosen app p value free t)
      task_right t lt = record {
        activity = activity_right t (val_of (value t)) (free.offset t) (val_right value allowed t lt).0 (λ x e. chosen.offsets t x lt (live_part (value t) x e));
        events = number_within (event_chosen app p value free t) 64 (the_task app t).own.0 (λ k e. (and_parts (has_bit (the_task app t).own.0 k) (flag_of (value (component_number app (component.Event (task_no t) (event_no k))))) e).0);
      }

      source_right : (k : ℕ) → IsSourceState app k (source_state (state_of app p value free) k)
      source_right k = elim (cases_lt k (source_count app)) [
        | inl lt ↦
            (let v = source_val_of (value_of_source app value k) in
            subst (IsSourceState app k) (sym (source_is k lt))
            (routine_right k v (free.routine_offset k) (source_val_right value allowed k lt).0 (λ x e. chosen.routine_offsets k x lt (in_part (value_of_source app value k) x e))))
        | inr past ↦ subst (IsSourceState app k) (sym (source_past k past)) tt
      ]

      part_is : (x : Component) → IsComponent app x → IsPart app p x (value (component_number app x)) → part_of (state_of app p value free) x ≡ value (component_number app x)
      part_is (component.Task t) known h =
          ap (λ (x : TaskState). OfTask (value_in x.activity)) (task_is t.0 known)
          ∙ ap OfTask (value_of_activity (val_of (value t.0)) (free.offset t.0))
          ∙ task_part t (value t.0) h
      part_is (component.Event t k) known h =
          let n = component_number app (component.Event t k) in
          ap (λ (x : TaskState). OfEvent (has_bit x.events.0 k.0)) (task_is t.0 known.0)
          ∙ ap OfEvent (has_bit_of_number (event_chosen app p value free t.0) 64 k.0 known.1)
          ∙ ap (λ b. OfEvent (b && flag_of (value n))) known.2
          ∙ event_part t (value n) k h
      part_is (component.Alarm a) known h =
          let n = component_number app (component.Alarm a) in
          ap (λ (x : AlarmState). OfAlarm (is_armed x)) (alarm_is a.0 known)
          ∙ ap OfAlarm (armed_flag (flag_of (value n)) (free.due a.0) (free.cycle a.0))
          ∙ alarm_part (value n) a h
      part_is (component.Source k) known h =
          let n = component_number app (component.Source k) in
          ap (λ (x : Source). OfSource (source_value x)) (source_is k.0 known)
          ∙ ap OfSource (value_of_routine (source_val_of (value n)) (free.routine_offset k.0))
          ∙ source_part (value n) k h

      parts_are : (c : ℕ) → c < component_count app → abstract_of app (state_of app p value free) c ≡ value c
      parts_are c lt =
          let same : component_number app (component_at app c) ≡ c = component_numbered app c lt in
          part_is (component_at app c) (component_known app c lt) (subst (λ (n : ℕ). IsPart app p (component_at app c) (value n)) (sym same) (allowed c lt))
          ∙ ap value same

module _ (app : App) (value : ℕ → PartValue) (free : Free) where
  -- the tasks and the sources are where the point says
  abbrev FitThere : Point → Type 0
  FitThere p = (t : ℕ) → t < length app.tasks → FitsPoint app p t (val_of (value t))

  abbrev SourcesFit : Point → Type 0
  SourcesFit p = (k : ℕ) → k < source_count app → SourceFitsPoint app p k (source_val_of (value_of_source app value k))

  abbrev AreSourceStates : Point → Type 0
  AreSourceStates p = (k : ℕ) → IsSourceState app k (source_state (state_of app p value free) k)

  interrupted : (b : BlockNo) (over under : Option TaskNo) → IfSome under (λ t. t.0 < length app.tasks) → ((t : ℕ) → t < length app.tasks → FitsPoint app (point.Routine b under) t (val_of (value t))) → IfSome under (HasProcessor app (state_of app (point.Routine b over) value free))
  interrupted b over None known fits = tt
  interrupted b over (Some u) known fits = (known, live_chosen app (point.Routine b over) value free u.0 known (fits u.0 known refl))

  -- the source whose routine stands at the point
  abbrev here_val : SourceVal
  here_val = source_val_of (value_of_source app value free.source.0)

  routine_runs : (b : BlockNo) (over : Option TaskNo) → IsRoutineAt app (point.Routine b over) value free b over → SourcesFit (point.Routine b over) → AreSourceStates (point.Routine b over)
      → IsRunningAt app free.source.0 (source_state (state_of app (point.Routine b over) value free) free.source.0)
  routine_runs b over stands sources states =
      let k = free.source.0 in
      let is = source_is app (point.Routine b over) value free k stands.known in
      subst (IsRunningAt app k) (sym is)
      (running_there app k b here_val (free.routine_offset k) (sources k stands.known stands.own) (subst (IsSourceState app k) is (states k)))

  processor_right : (p : Point) → StandsThere app p value free p → FitThere p → SourcesFit p → AreSourceStates p → IsProcessor app (state_of app p value free) (processor_by app p value free p)
  processor_right point.Halted stands fits sources states = all_are_out app point.Halted value free sources
  processor_right point.Idle stands fits sources states = all_are_out app point.Idle value free sources
  processor_right (point.Task b) stands fits sources states = record {
    running = (stands.0, live_chosen app (point.Task b) value free free.task.0 stands.0 (live_at_value app free.task.0 b (val_of (value free.task.0)) (fits free.task.0 stands.0 stands.1)));
    out = all_are_out app (point.Task b) value free sources;
  }
  processor_right (point.Routine b over) stands fits sources states = record {
    known = stands.known;
    runs = routine_runs b over stands sources states;
    others = states;
    over = interrupted b over over stands.interrupted fits;
  }

  point_is : (p : Point) → StandsThere app p value free p → FitThere p → SourcesFit p → point_of (state_of app p value free) ≡ p
  point_is point.Halted stands fits sources = refl
  point_is point.Idle stands fits sources = refl
  point_is (point.Task b) stands fits sources =
      ap (λ (x : TaskState). point.Task (place_in x.activity).block) (task_is app (point.Task b) value free free.task.0 stands.0)
      ∙ ap point.Task (place_of_value app free.task.0 b (val_of (value free.task.0)) (free.offset free.task.0) (fits free.task.0 stands.0 stands.1))
  point_is (point.Routine b over) stands fits sources =
      let k = free.source.0 in
      ap (λ (x : Source). point.Routine (place_of_source x).block over) (source_is app (point.Routine b over) value free k stands.known)
      ∙ ap (λ (at : Place). point.Routine at.block over) (place_of_in app b here_val (free.routine_offset k) (sources k stands.known stands.own))

module _ (app : App) (value : ℕ → PartValue) (free : Free) where
  current_chosen : (p : Point) → StandsThere app p value free p → FitThere app value free p → (t : ℕ) → is_that_task (task_of (processor_by app p value free p)) t ≡ true
      → is_inside (task_state (state_of app p value free) t) ≡ is_some (internal_of app t)
  current_chosen point.Halted stands fits t e = absurd (false≢true e)
  current_chosen point.Idle stands fits t e = absurd (false≢true e)
  current_chosen (point.Task b) stands fits t e =
      let r = free.task.0 in
      subst (λ (u : ℕ). is_inside (task_state (state_of app (point.Task b) value free) u) ≡ is_some (internal_of app u)) (eqb-true r t e)
      (flag_chosen app (point.Task b) value free r stands.0 (live_at_value app r b (val_of (value r)) (fits r stands.0 stands.1)))
  current_chosen (point.Routine b None) stands fits t e = absurd (false≢true e)
  current_chosen (point.Routine b (Some r)) stands fits t e =
      subst (λ (u : ℕ). is_inside (task_state (state_of app (point.Routine b (Some r)) value free) u) ≡ is_some (internal_of app u)) (eqb-true r.0 t e)
      (flag_chosen app (point.Routine b (Some r)) value free r.0 stands.interrupted (fits r.0 stands.interrupted refl))

  -- the right tasks are inside
  chosen_inside : (p : Point) → AreAllowed app p value → StandsThere app p value free p → FitThere app value free p → IsInside app (state_of app p value free)
  chosen_inside p allowed stands fits = record {
    named = λ t e. elim (cases_lt t (length app.tasks)) [
      | inl lt ↦ inside_named app t (val_of (value t)) (free.offset t) (val_right app p value allowed t lt).0 (sym (ap (λ (x : TaskState). is_inside x) (task_is app p value free t lt)) ∙ e)
      | inr past ↦ absurd (false≢true (sym (ap (λ (x : TaskState). is_inside x) (none_chosen app p value free t past)) ∙ e))
    ];
    current = current_chosen p stands fits;
  }

-- a task with a value has to stand in the line as often, however far it is in its block
due_anywhere : (current : Option TaskNo) (t : ℕ) (v : Val) (o : ℕ) → places_due current t (activity_of v 0) ≡ places_due current t (activity_of v o)
due_anywhere current t Suspended o = refl
due_anywhere current t (Live x) o = refl
due_anywhere current t (Waiting b) o = refl

module _ (app : App) (p : Point) (value : ℕ → PartValue) (free : Free) where
  abbrev current : Option TaskNo
  current = task_of (processor_by app p value free p)

  places_chosen : (t : ℕ) → places_wanted app p value free t ≡ places_due current t (task_state (state_of app p value free) t).activity
  places_chosen t = elim (cases_lt t (length app.tasks)) [
    | inl lt ↦ (let e : nat_lt t (length app.tasks) ≡ true = grind (arith, nat_tests) in
        ap (λ (b : Bool). if b then places_due current t (activity_of (val_of (value t)) 0) else 0) e
        ∙ due_anywhere current t (val_of (value t)) (free.offset t)
        ∙ ap (λ (x : TaskState). places_due current t x.activity) (sym (task_is app p value free t lt)))
    | inr past ↦ (let e : nat_lt t (length app.tasks) ≡ false = grind (arith, nat_tests) in
        ap (λ (b : Bool). if b then places_due current t (activity_of (val_of (value t)) 0) else 0) e
        ∙ ap (λ (x : TaskState). places_due current t x.activity) (sym (none_chosen app p value free t past)))
  ]

-- the state with these values
pub state_has_parts : (app : App) (p : Point) (value : ℕ → PartValue) (free : Free) → AreAllowed app p value → IsFree app p value free → HasParts app p value (state_of app p value free)
state_has_parts app p value free allowed chosen =
    let fits : FitThere app value free p = λ t lt. (val_right app p value allowed t lt).1 in
    let sources : SourcesFit app value free p = λ k lt. (source_val_right app p value allowed k lt).1 in
    record {
      well = record {
        mode = chosen.mode;
        tasks_len = length-map-range_with_len (task_chosen app p value free) 0 (length app.tasks);
        counters_len = chosen.counters_len;
        alarms_len = length-map-range_with_len (alarm_chosen app p value free) 0 (length app.alarms);
        sources_len = length-map-range_with_len (source_chosen app p value free) 0 (source_count app);
        latched_len = chosen.latched_len;
        tasks = λ t lt. subst (IsTaskState app t) (sym (task_is app p value free t lt)) (task_right app p value free allowed chosen t lt);
        counters = chosen.counters;
        alarms = λ a lt. subst (IsAlarmState app a) (sym (alarm_is app p value free a lt)) (alarm_right app p a (flag_of (value (component_number app (component.Alarm (alarm_no a))))) (free.due a) (free.cycle a) (chosen.alarms a lt));
        processor = processor_right app value free p chosen.stands fits sources (source_right app p value free allowed chosen);
        line = λ t. chosen.line t ∙ places_chosen app p value free t;
      };
      regular = record { inside = chosen_inside app value free p allowed chosen.stands fits };
      point = point_is app value free p chosen.stands fits sources;
      parts = parts_are app p value free allowed chosen;
    }

at_most_any : (n c most : ℕ) → c < n → get_or (replicate n 0) c 0 ≤ most
at_most_any n c most lt = let none : ℕ = 0 in let e = get_or-replicate n c none none lt in subst (λ (k : ℕ). k ≤ most) (sym e) (omega arith)

-- a choice that well-formedness allows: the first mode, and 0 everywhere
module _ (app : App) where
  task_there : (p : Point) → IsPoint app p → TaskNo
  task_there point.Halted h = task_no 0
  task_there point.Idle h = task_no 0
  task_there (point.Task b) h = task_no h.task
  task_there (point.Routine b over) h = task_no 0

  source_there : (p : Point) → IsPoint app p → SourceNo
  source_there point.Halted h = source_no 0
  source_there point.Idle h = source_no 0
  source_there (point.Task b) h = source_no 0
  source_there (point.Routine b over) h = source_no h.source

  current_there : (p : Point) → IsPoint app p → Option TaskNo
  current_there point.Halted h = None
  current_there point.Idle h = None
  current_there (point.Task b) h = Some (task_no h.task)
  current_there (point.Routine b over) h = over

  first_choice : (p : Point) → (ℕ → PartValue) → IsPoint app p → Free
  first_choice p value h = record {
    mode = mode_no 0;
    counters = replicate (length app.counters) 0;
    latched = replicate (source_count app) false;
    task = task_there p h;
    source = source_there p h;
    routine_offset = λ k. 0;
    offset = λ t. 0;
    due = λ a. 0;
    cycle = λ a. 0;
    line = repeated_line (λ t. places_due (current_there p h) t (activity_of (val_of (value t)) 0)) 0 (length app.tasks);
  }

  stands_first : (p : Point) (value : ℕ → PartValue) (h : IsPoint app p) → StandsThere app p value (first_choice p value h) p
  unfolding task_there source_there first_choice
  stands_first point.Halted value h = tt
  stands_first point.Idle value h = tt
  stands_first (point.Task b) value h = (h.known, h.own)
  stands_first (point.Routine b over) value h = record { known = h.known; own = h.own; interrupted = h.task }

  same_current : (p : Point) (value : ℕ → PartValue) (h : IsPoint app p) → current_there p h ≡ task_of (processor_by app p value (first_choice p value h) p)
  unfolding current_there task_there first_choice
  same_current point.Halted value h = refl
  same_current point.Idle value h = refl
  same_current (point.Task b) value h = refl
  same_current (point.Routine b over) value h = refl

  line_first : (p : Point) (value : ℕ → PartValue) (h : IsPoint app p) (t : ℕ) → places_in (first_choice p value h).line t ≡ places_wanted app p value (first_choice p value h) t
  unfolding first_choice
  line_first p value h t =
      repeated_counted (λ u. places_due (current_there p h) u (activity_of (val_of (value u)) 0)) (length app.tasks) t
      ∙ ap (λ (o : Option TaskNo). if nat_lt t (length app.tasks) then places_due o t (activity_of (val_of (value t)) 0) else 0) (same_current p value h)

  pub choice_allowed : (p : Point) (value : ℕ → PartValue) → IsPoint app p → AreAllowed app p value → (free : Free) × IsFree app p value free
  unfolding first_choice
  choice_allowed p value h allowed = (
    first_choice p value h,
    record {
      mode = app.valid.some_mode;
      counters_len = length-replicate (length app.counters) 0;
      counters = λ c lt. at_most_any (length app.counters) c (the_counter app c).max lt;
      latched_len = length-replicate (source_count app) false;
      stands = stands_first p value h;
      offsets = λ t l lt e.
          (let x : IsPart app p (component.Task (task_no t)) (OfTask (Live l)) = subst (IsPart app p (component.Task (task_no t))) e (allowed_task app p value allowed t lt) in
          offset_0 app (the_block app l.block.0).kind (own_block app t l.block.0 lt x.0.own).operands);
      routine_offsets = λ k x lt e.
          (let part : IsPart app p (component.Source (source_no k)) (OfSource (source_val.In x)) = subst (IsPart app p (component.Source (source_no k))) e (allowed_source app p value allowed k lt) in
          offset_0 app (the_block app x.block.0).kind (routine_block app k x.block.0 lt part.0.own).operands);
      alarms = λ a lt. record { at_most = omega arith; round = refl };
      line = line_first p value h;
    },
  )
