-- Other choices of what a table doesn't keep are allowed too, and the states that they give.
use Rattle.std.proofs.Common.{◌≡◌, ℕ, ◌<◌, ◌≤◌, Bool, true, false, List, ◌∷◌, length, replicate, get_or, refl, sym, ap, subst, ◌∙◌, inl, inr, arith, None, get_or-set_same, get_or-set_other}
use Rattle.std.specs.Prelude.{◌==◌, ◌&&◌, nat_le, nat_lt, slice_set, if◌then◌else◌}
use Rattle.std.proofs.lemmas.{Bool.{cases_Bool, cases_lt, cases_eq, eq-eqb, ne_eqb, and_from, or_right, Decides.{nat_tests}}, List.{get_or_past, get_or-replicate, length-replicate}}
use Rattle.std.proofs.Math.ListN.{length-set}
use Rattle.osek_values.specs.{Numbers.{task_no, alarm_no}, declared.numbers.{TaskNo.{TaskNo}, BlockNo.{BlockNo}, SourceNo.{SourceNo}}, Line.{place_in_line, without_first}}
use Rattle.osek_standard.specs.{declared.{app.App.{App}, objects.Counter.{Counter}, state.State.{State}}, Validity.{is_cycle_of}}
use Rattle.osek_standard.specs.declared.state.AlarmState.TheVariants as alarm
use Rattle.osek_standard.specs.declared.{task_state.TaskState.{TaskState}, point.Point.{Point}}
use Rattle.osek_standard.specs.declared.point.Point.TheVariants as point
use Rattle.osek_standard.specs.{Apps.{the_block, the_alarm, the_counter, source_count, max_of, no_alarm, no_counter}, States.{alarm_state, here, place_in, place_of_source}}
use Rattle.osek_standard.specs.{Effects.{place_at}, Arrivals.{arrival}, Points.{StandsAt, IsPoint}, Well.{IsOwn, IsOfRoutine, IsOffsetAt, IsArmed}}
use Rattle.osek_standard.proofs.{ArrivalLaws.{is_arrival, none_latched as nothing_arrives}, PlaceLaws.{places_in, itself_first, other_first, without_same, without_other}}
use Rattle.abstract_state.specs.declared.value.{LiveVal.{LiveVal}, Val.{Val, TheVariants.{Suspended, Live, Waiting}}, RoutineVal.{RoutineVal}, PartValue.{PartValue, TheVariants.{OfTask, OfSource}}}
use Rattle.abstract_state.specs.declared.value.SourceVal.TheVariants as source_val
use Rattle.abstract_state.specs.declared.value.Component.TheVariants as component
use Rattle.abstract_state.specs.Components.{component_number, RunsAt, IsInAt}
use Rattle.abstract_state.specs.Concrete.{Free, val_of, flag_of, source_val_of, activity_of, alarm_of, source_of, value_of_source, IsFree, StandsThere, AreAllowed, HasParts, state_of}
use Rattle.abstract_state.specs.Choices.{with_latches, with_offset, with_routine_offset, with_arming, with_counter, with_first, first_of_line}
use Rattle.abstract_state.specs.Choices.{IsFirstIfThere, IsQuietState, IsQuietAt, IsQuietWith, IsLatchedAlone}
use Rattle.abstract_state.proofs.ConcreteLaws.{state_has_parts, choice_allowed, task_is, alarm_is, source_is, val_right, source_val_right, place_of_in}

-- each task stands in a line as often as before, whichever comes first
moved_ahead : (t u : ℕ) (line : List TaskNo) → 0 < places_in line t → places_in (task_no t ∷ without_first line t) u ≡ places_in line u
moved_ahead t u line some = elim (cases_eq u t) [
  | inl same ↦ subst (λ (v : ℕ). places_in (task_no t ∷ without_first line t) v ≡ places_in line v) (sym same) (itself_first (task_no t) (without_first line t) ∙ without_same t line some)
  | inr other ↦ (other_first u (task_no t) (without_first line t) other ∙ without_other t u line other)
]

same_places : (t u : ℕ) (line : List TaskNo) → places_in (first_of_line t line) u ≡ places_in line u
same_places t u line = elim (cases_Bool (nat_lt 0 (places_in line t))) [
  | inl e ↦ (let some : 0 < places_in line t = grind (arith, nat_tests) in rw e (moved_ahead t u line some))
  | inr e ↦ (rw e refl)
]

-- and that task comes first, if it stands there
comes_first : (t : ℕ) (line : List TaskNo) → 0 < places_in line t → place_in_line (first_of_line t line) t ≡ 0
comes_first t line some = let e : nat_lt 0 (places_in line t) ≡ true = grind (arith, nat_tests) in rw (e, eq-eqb t t refl) refl

module _ (app : App) (p : Point) (value : ℕ → PartValue) (free : Free) where
  -- another choice with the same task and source stands there too
  stands_with : (other : Free) (q : Point) → other.task ≡ free.task → other.source ≡ free.source → StandsThere app p value free q → StandsThere app p value other q
  stands_with other point.Halted task source h = h
  stands_with other point.Idle task source h = h
  stands_with other (point.Task b) task source h = subst (λ (t : TaskNo). (t.0 < length app.tasks) × IsOwn app t.0 b.0) (sym task) h
  stands_with other (point.Routine b over) task source h = record {
    known = subst (λ (k : SourceNo). k.0 < source_count app) (sym source) h.known;
    own = subst (λ (k : SourceNo). IsOfRoutine app k.0 b.0) (sym source) h.own;
    interrupted = h.interrupted;
  }

  module _ (h : IsFree app p value free) where
    pub free_latches : (latched : List Bool) → length latched ≡ source_count app → IsFree app p value (with_latches free latched)
    free_latches latched long = record {
      mode = h.mode;
      counters_len = h.counters_len;
      counters = h.counters;
      latched_len = long;
      stands = stands_with (with_latches free latched) p refl refl h.stands;
      offsets = h.offsets;
      routine_offsets = h.routine_offsets;
      alarms = h.alarms;
      line = h.line;
    }

    pub free_offset : (t o : ℕ) → ((x : LiveVal) → value t ≡ OfTask (Live x) → IsOffsetAt (the_block app x.block.0).kind o) → IsFree app p value (with_offset free t o)
    free_offset t o known = record {
      mode = h.mode;
      counters_len = h.counters_len;
      counters = h.counters;
      latched_len = h.latched_len;
      stands = stands_with (with_offset free t o) p refl refl h.stands;
      offsets = λ u x lt e. elim (cases_eq u t) [
        | inl same ↦ (rw (eq-eqb u t same) (known x (ap value (sym same) ∙ e)))
        | inr other ↦ (rw (ne_eqb u t other) (h.offsets u x lt e))
      ];
      routine_offsets = h.routine_offsets;
      alarms = h.alarms;
      line = h.line;
    }

    pub free_routine_offset : (k o : ℕ) → ((x : RoutineVal) → value_of_source app value k ≡ OfSource (source_val.In x) → IsOffsetAt (the_block app x.block.0).kind o) → IsFree app p value (with_routine_offset free k o)
    free_routine_offset k o known = record {
      mode = h.mode;
      counters_len = h.counters_len;
      counters = h.counters;
      latched_len = h.latched_len;
      stands = stands_with (with_routine_offset free k o) p refl refl h.stands;
      offsets = h.offsets;
      routine_offsets = λ l x lt e. elim (cases_eq l k) [
        | inl same ↦ (rw (eq-eqb l k same) (known x (ap (value_of_source app value) (sym same) ∙ e)))
        | inr other ↦ (rw (ne_eqb l k other) (h.routine_offsets l x lt e))
      ];
      alarms = h.alarms;
      line = h.line;
    }

    pub free_arming : (a at cycle : ℕ) → IsArmed app a at cycle → IsFree app p value (with_arming free a at cycle)
    free_arming a at cycle armed = record {
      mode = h.mode;
      counters_len = h.counters_len;
      counters = h.counters;
      latched_len = h.latched_len;
      stands = stands_with (with_arming free a at cycle) p refl refl h.stands;
      offsets = h.offsets;
      routine_offsets = h.routine_offsets;
      alarms = λ b lt. elim (cases_eq b a) [
        | inl same ↦ (rw (eq-eqb b a same) (subst (λ (i : ℕ). IsArmed app i at cycle) (sym same) armed))
        | inr other ↦ (rw (ne_eqb b a other) (h.alarms b lt))
      ];
      line = h.line;
    }

    pub free_counter : (c x : ℕ) → x ≤ (the_counter app c).max → IsFree app p value (with_counter free c x)
    free_counter c x most = record {
      mode = h.mode;
      counters_len = length-set free.counters c x ∙ h.counters_len;
      counters = λ d lt. elim (cases_eq d c) [
        | inl same ↦
            (let here : c < length free.counters = let long = h.counters_len in omega (arith, same, lt, long) in
            let is : get_or (slice_set free.counters c x) d 0 ≡ x = ap (λ (i : ℕ). get_or (slice_set free.counters c x) i 0) same ∙ get_or-set_same free.counters c x 0 here in
            subst (λ (n : ℕ). n ≤ (the_counter app d).max) (sym is) (subst (λ (i : ℕ). x ≤ (the_counter app i).max) (sym same) most))
        | inr other ↦ subst (λ (n : ℕ). n ≤ (the_counter app d).max) (sym (get_or-set_other free.counters c d x 0 other)) (h.counters d lt)
      ];
      latched_len = h.latched_len;
      stands = stands_with (with_counter free c x) p refl refl h.stands;
      offsets = h.offsets;
      routine_offsets = h.routine_offsets;
      alarms = h.alarms;
      line = h.line;
    }

    pub free_first : (t : ℕ) → IsFree app p value (with_first free t)
    free_first t = record {
      mode = h.mode;
      counters_len = h.counters_len;
      counters = h.counters;
      latched_len = h.latched_len;
      stands = stands_with (with_first free t) p refl refl h.stands;
      offsets = h.offsets;
      routine_offsets = h.routine_offsets;
      alarms = h.alarms;
      line = λ u. same_places t u free.line ∙ h.line u;
    }

-- none latched, and one alone
pub none_latched : (n k : ℕ) → get_or (replicate n false) k false ≡ false
none_latched n k = elim (cases_lt k n) [
  | inl below ↦ get_or-replicate n k false false below
  | inr above ↦ (let long = length-replicate n false in get_or_past (replicate n false) k false (omega (arith, above, long)))
]

pub one_is_latched : (n k : ℕ) → k < n → get_or (slice_set (replicate n false) k true) k false ≡ true
one_is_latched n k lt = let long = length-replicate n false in get_or-set_same (replicate n false) k true false (omega (arith, lt, long))

pub one_latched : (n k l : ℕ) → get_or (slice_set (replicate n false) k true) l false ≡ true → l ≡ k
one_latched n k l e = elim (cases_eq l k) [
  | inl same ↦ same
  | inr other ↦ (let unset : get_or (slice_set (replicate n false) k true) l false ≡ false = get_or-set_other (replicate n false) k l true false other ∙ none_latched n l in absurd (cc))
]

-- a well-formed state with these values and latches
pub record Chosen (app : App) (p : Point) (value : ℕ → PartValue) (l : List Bool) : Type 0 where
  pub state : State
  pub has : HasParts app p value state
  pub latched : state.latched ≡ l

pub chosen : (app : App) (p : Point) (value : ℕ → PartValue) (l : List Bool) → IsPoint app p → AreAllowed app p value → length l ≡ source_count app → Chosen app p value l
chosen app p value l h allowed long =
    let c = choice_allowed app p value h allowed in
    let free = with_latches c.0 l in
    record {
      state = state_of app p value free;
      has = state_has_parts app p value free allowed (free_latches app p value c.0 c.1 l long);
      latched = refl;
    }

module _ (app : App) (p : Point) (value : ℕ → PartValue) (known : IsPoint app p) (allowed : AreAllowed app p value) where
  -- no source is latched
  abbrev quiet_free : Free
  quiet_free = with_latches (choice_allowed app p value known allowed).0 (replicate (source_count app) false)

  quiet_is_free : IsFree app p value quiet_free
  quiet_is_free = let c = choice_allowed app p value known allowed in free_latches app p value c.0 c.1 (replicate (source_count app) false) (length-replicate (source_count app) false)

  quiet_by : (free : Free) → free.latched ≡ replicate (source_count app) false → arrival app (state_of app p value free) ≡ None
  quiet_by free e = nothing_arrives app (state_of app p value free) (λ k. ap (λ (l : List Bool). get_or l k false) e ∙ none_latched (source_count app) k)

  -- in which task t comes first
  first_by : (t : ℕ) (free : Free) → IsFirstIfThere t (state_of app p value (with_first free t))
  first_by t free some = comes_first t free.line (subst (λ (n : ℕ). 0 < n) (same_places t t free.line) some)

  -- a state in which no routine begins
  pub some_quiet : (t : ℕ) → (s : State) × IsQuietState app p value t s
  some_quiet t =
      let free = with_first quiet_free t in (
        state_of app p value free,
        record {
          has = state_has_parts app p value free allowed (free_first app p value quiet_free quiet_is_free t);
          quiet = quiet_by free refl;
          first = first_by t quiet_free;
        },
      )

  -- a state in which source k's routine begins if one may
  pub some_latched : (k : ℕ) → k < source_count app → (s : State) × IsLatchedAlone app p value k s
  some_latched k lt =
      let c = choice_allowed app p value known allowed in
      let latched = slice_set (replicate (source_count app) false) k true in
      let long : length latched ≡ source_count app = length-set (replicate (source_count app) false) k true ∙ length-replicate (source_count app) false in
      let free = with_latches c.0 latched in
      let s = state_of app p value free in (
        s,
        record {
          has = state_has_parts app p value free allowed (free_latches app p value c.0 c.1 latched long);
          arrives = λ may high. is_arrival app s k (record {
            allowed = may;
            latched = one_is_latched (source_count app) k lt;
            above = high;
            others = λ l set other. absurd (other (one_latched (source_count app) k l set));
          });
        },
      )

  -- the counter of alarm a stands at a value, and the alarm has a time and a cycle
  pub some_armed : (t a at cycle now : ℕ) → a < length app.alarms → IsArmed app a at cycle → now ≤ max_of app a → (s : State) × IsQuietWith app p value t a at cycle now s
  some_armed t a at cycle now lt armed most =
      let c = (the_alarm app a).counter.0 in
      let armed_free = with_arming quiet_free a at cycle in
      let counted = with_counter armed_free c now in
      let free = with_first counted t in
      let s = state_of app p value free in
      let few : c < length quiet_free.counters = let there = (app.valid.each_alarm a no_alarm lt).counter in let long = quiet_is_free.counters_len in omega (arith, there, long) in
      let own : flag_of (value (component_number app (component.Alarm (alarm_no a)))) ≡ true → alarm_state s a ≡ alarm.Armed at cycle
      = λ set. alarm_is app p value free a lt
      ∙ ap (λ (b : Bool). alarm_of b (free.due a) (free.cycle a)) set
      ∙ ap (λ (e : Bool). alarm.Armed (if e then at else quiet_free.due a) (if e then cycle else quiet_free.cycle a)) (eq-eqb a a refl) in (
        s,
        record {
          has = state_has_parts app p value free allowed
              (free_first app p value counted (free_counter app p value armed_free (free_arming app p value quiet_free quiet_is_free a at cycle armed) c now most) t);
          quiet = quiet_by free refl;
          first = first_by t counted;
          counter = get_or-set_same quiet_free.counters c now 0 few;
          armed = λ e. own (ap flag_of e);
        },
      )

-- where the processor stands, so far in its block
module _ (app : App) (t : ℕ) where
  place_of_live : (b : BlockNo) (v : Val) (o : ℕ) → RunsAt app b t v → place_in (activity_of v o) ≡ place_at b o
  place_of_live b Suspended o h = absurd h
  place_of_live b (Live x) o h = ap (λ (c : BlockNo). place_at c o) h.0
  place_of_live b (Waiting c) o h = absurd h

  block_of_live : (b : BlockNo) (x : LiveVal) (y : PartValue) → RunsAt app b t (val_of y) → y ≡ OfTask (Live x) → x.block ≡ b
  block_of_live b x y h e = let there : RunsAt app b t (Live x) = subst (λ (z : PartValue). RunsAt app b t (val_of z)) e h in there.0

block_of_in : (app : App) (b : BlockNo) (x : RoutineVal) (y : PartValue) → IsInAt app b (source_val_of y) → y ≡ OfSource (source_val.In x) → x.block ≡ b
block_of_in app b x y h e = subst (λ (z : PartValue). IsInAt app b (source_val_of z)) e h

-- a state in which no routine begins, and who has the processor stands so far in the block
pub some_quiet_at : (app : App) (p : Point) (value : ℕ → PartValue) → IsPoint app p → AreAllowed app p value → (u : ℕ) (b : BlockNo) (o : ℕ) → StandsAt p b → IsOffsetAt (the_block app b.0).kind o →
    (s : State) × IsQuietAt app p value u b o s
some_quiet_at app point.Halted value known allowed u b o same offset = absurd same
some_quiet_at app point.Idle value known allowed u b o same offset = absurd same
some_quiet_at app (point.Task c) value known allowed u b o same offset =
    let p = point.Task c in
    let before = quiet_free app p value known allowed in
    let h = quiet_is_free app p value known allowed in
    let t = before.task.0 in
    let there : RunsAt app c t (val_of (value t)) = (val_right app p value allowed t h.stands.0).1 h.stands.1 in
    let placed = with_offset before t o in
    let free = with_first placed u in
    let s = state_of app p value free in (
      s,
      record {
        has = state_has_parts app p value free allowed (free_first app p value placed (free_offset app p value before h t o
            (λ x e. subst (λ (d : BlockNo). IsOffsetAt (the_block app d.0).kind o) (sym (block_of_live app t c x (value t) there e ∙ same)) offset)) u);
        quiet = quiet_by app p value known allowed free refl;
        first = first_by app p value known allowed u placed;
        stands = ap (λ (x : TaskState). place_in x.activity) (task_is app p value free t h.stands.0)
            ∙ ap (λ (e : Bool). place_in (activity_of (val_of (value t)) (if e then o else before.offset t))) (eq-eqb t t refl)
            ∙ place_of_live app t c (val_of (value t)) o there
            ∙ ap (λ (d : BlockNo). place_at d o) same;
      },
    )
some_quiet_at app (point.Routine c over) value known allowed u b o same offset =
    let p = point.Routine c over in
    let before = quiet_free app p value known allowed in
    let h = quiet_is_free app p value known allowed in
    let k = before.source.0 in
    let there : IsInAt app c (source_val_of (value_of_source app value k)) = (source_val_right app p value allowed k h.stands.known).1 h.stands.own in
    let placed = with_routine_offset before k o in
    let free = with_first placed u in
    let s = state_of app p value free in (
      s,
      record {
        has = state_has_parts app p value free allowed (free_first app p value placed (free_routine_offset app p value before h k o
            (λ x e. subst (λ (d : BlockNo). IsOffsetAt (the_block app d.0).kind o) (sym (block_of_in app c x (value_of_source app value k) there e ∙ same)) offset)) u);
        quiet = quiet_by app p value known allowed free refl;
        first = first_by app p value known allowed u placed;
        stands = ap place_of_source (source_is app p value free k h.stands.known)
            ∙ ap (λ (e : Bool). place_of_source (source_of (source_val_of (value_of_source app value k)) (if e then o else before.routine_offset k))) (eq-eqb k k refl)
            ∙ place_of_in app c (source_val_of (value_of_source app value k)) o there
            ∙ ap (λ (d : BlockNo). place_at d o) same;
      },
    )

-- times and cycles that an alarm may have
cycle_of : (c : Counter) → c.min_cycle ≤ c.max → is_cycle_of c c.max ≡ true
cycle_of c least =
    let low : nat_le c.min_cycle c.max ≡ true = grind (arith, nat_tests) in
    let high : nat_le c.max c.max ≡ true = grind (arith, nat_tests) in
    or_right (c.max == 0) (nat_le c.min_cycle c.max && nat_le c.max c.max) (and_from (nat_le c.min_cycle c.max) (nat_le c.max c.max) low high)

module _ (app : App) (a : ℕ) (lt : a < length app.alarms) where
  counter_known : (the_alarm app a).counter.0 < length app.counters
  counter_known = (app.valid.each_alarm a no_alarm lt).counter

  -- its counter counts to 1 at least
  pub some_ticks : 1 ≤ max_of app a
  some_ticks = (app.valid.each_counter (the_alarm app a).counter.0 no_counter counter_known).0

  -- a single alarm, at any time
  pub armed_once : (at : ℕ) → at ≤ max_of app a → IsArmed app a at 0
  armed_once at most = record { at_most = most; round = refl }

  -- a cyclic one, at any time, its cycle the longest
  pub armed_again : (at : ℕ) → at ≤ max_of app a → IsArmed app a at (max_of app a)
  armed_again at most = record {
    at_most = most;
    round = (let least = app.valid.min_cycles (the_alarm app a).counter.0 no_counter counter_known in cycle_of (the_counter app (the_alarm app a).counter.0) least);
  }
