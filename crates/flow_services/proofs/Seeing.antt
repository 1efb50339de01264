-- What tests read of a state, and what a service sees of it after its caller's move.
use Rattle.std.proofs.Common.{false, ◌≡◌, ℕ, ◌+◌, ◌<◌, Bool, true, not, ◌&&◌, nat_lt, nat_le, length, refl, sym, ap, subst, ◌∙◌, Some, None, ◌⊎◌, inl, inr, [], ◌∷◌, arith}
use Rattle.std.specs.declared.option.Option.{Option}
use Rattle.std.proofs.lemmas.Bool.{cases_Bool, cases_lt, and_from, and_parts, not-true, Decides.{nat_tests}}
use Rattle.flow_model.proofs.{ChangeLaws.{passes_one, one_passes}, LinesAfter.{some_due}}
use Rattle.flow_model.specs.Cases.{condition}
use Rattle.osek_values.specs.{Numbers.{alarm_no}, declared.numbers.{TaskNo.{TaskNo}, BlockNo.{BlockNo}}}
use Rattle.osek_standard.specs.declared.{app.App.{App}, state.State.{State}, task_state.{TaskState.{TaskState}, Activity.{Activity}, Place.{Place}}}
use Rattle.osek_standard.specs.declared.task_state.Activity.TheVariants as activity
use Rattle.osek_standard.specs.{TaskStates.{is_live, is_live_activity, is_suspended, is_suspended_activity}, States.{is_that_task, task_of, task_state, alarm_state}, Line.{places, places_due}}
use Rattle.osek_standard.specs.{Effects.{place_at, standing_at, moved_to}, Services.{is_full_by}, Well.{Well}}
use Rattle.abstract_state.specs.declared.value.PartValue.TheVariants.{OfTask, OfAlarm}
use Rattle.abstract_state.specs.declared.value.Component.TheVariants as component
use Rattle.abstract_state.specs.{Components.{component_number, part_of, abstract_of, value_in, is_armed}}
use Rattle.abstract_state.proofs.{ComponentLaws.{task_at_its_number, task_counted}, Numbers.{component_here}, OrderLaws.{part_right, part_itself}}
use Rattle.flow_model.specs.declared.runner.Runner.{Runner}
use Rattle.flow_model.specs.declared.test.Test.TheVariants as test
use Rattle.flow_model.specs.{Values.{is_suspended_value, is_full_value, has_room}, Tests.{passes, PassesAll}, Runners.{Stands}}
use Rattle.flow_model.proofs.Moves.{moved_keeps_of, moved_suspended}

-- where a task waits
abbrev pub waiting_block : Activity → Option BlockNo
waiting_block activity.Suspended = None
waiting_block (activity.Live x) = None
waiting_block (activity.Waiting b) = Some b

pub waits_there : (a : Activity) (b : BlockNo) → waiting_block a ≡ Some b → a ≡ activity.Waiting b
waits_there activity.Suspended b e = absurd (cc)
waits_there (activity.Live x) b e = absurd (cc)
waits_there (activity.Waiting c) b e = ap activity.Waiting (cc)

suspended_value : (a : Activity) → is_suspended_value (value_in a) ≡ is_suspended_activity a
suspended_value activity.Suspended = refl
suspended_value (activity.Live x) = refl
suspended_value (activity.Waiting b) = refl

-- whether it takes a further activation
fullness : (n k : ℕ) → not (nat_lt (k + 1) n) ≡ nat_le n (k + 1)
fullness n k = elim (cases_lt (k + 1) n) [
  | inl below ↦
      (let room : nat_lt (k + 1) n ≡ true = grind (arith, nat_tests) in
      let full : nat_le n (k + 1) ≡ false = grind (arith, nat_tests) in
      ap not room ∙ sym full)
  | inr above ↦
      (let room : nat_lt (k + 1) n ≡ false = grind (arith, nat_tests) in
      let full : nat_le n (k + 1) ≡ true = grind (arith, nat_tests) in
      ap not room ∙ sym full)
]

full_value : (n : ℕ) (a : Activity) → is_full_value n (value_in a) ≡ is_full_by n a
full_value n activity.Suspended = refl
full_value n (activity.Live x) = fullness n x.further
full_value n (activity.Waiting b) = refl

room_value : (n : ℕ) (a : Activity) → has_room n (value_in a) ≡ (not (is_suspended_activity a) && not (is_full_by n a))
room_value n activity.Suspended = refl
room_value n (activity.Live x) = twice (nat_lt (x.further + 1) n) ∙ ap not (fullness n x.further)
  where
    twice : (b : Bool) → b ≡ not (not b)
    twice true = refl
    twice false = refl
room_value n (activity.Waiting b) = refl

pub still_full : (n : ℕ) (a : Activity) (p : Place) → is_full_by n (standing_at a p) ≡ is_full_by n a
still_full n activity.Suspended p = refl
still_full n (activity.Live x) p = refl
still_full n (activity.Waiting b) p = refl

still_waiting : (a : Activity) (p : Place) → waiting_block (standing_at a p) ≡ waiting_block a
still_waiting activity.Suspended p = refl
still_waiting (activity.Live x) p = refl
still_waiting (activity.Waiting b) p = refl

module _ (app : App) (s : State) (t : ℕ) (known : t < length app.tasks) where
  pub task_value : abstract_of app s t ≡ OfTask (value_in (task_state s t).activity)
  task_value = ap (part_of s) (task_at_its_number app t known)

  -- the tests of a task
  pub tests_suspended : passes test.Suspended (abstract_of app s t) ≡ is_suspended (task_state s t)
  tests_suspended = ap (passes test.Suspended) task_value ∙ suspended_value (task_state s t).activity

  pub tests_not_suspended : passes test.NotSuspended (abstract_of app s t) ≡ not (is_suspended (task_state s t))
  tests_not_suspended = ap (passes test.NotSuspended) task_value ∙ ap not (suspended_value (task_state s t).activity)

  pub tests_full : (n : ℕ) → passes (test.Full n) (abstract_of app s t) ≡ is_full_by n (task_state s t).activity
  tests_full n = ap (passes (test.Full n)) task_value ∙ full_value n (task_state s t).activity

  pub tests_room : (n : ℕ) → passes (test.Room n) (abstract_of app s t) ≡ (not (is_suspended (task_state s t)) && not (is_full_by n (task_state s t).activity))
  tests_room n = ap (passes (test.Room n)) task_value ∙ room_value n (task_state s t).activity

module _ (app : App) (s : State) (a : ℕ) (known : a < length app.alarms) where
  abbrev number : ℕ
  number = component_number app (component.Alarm (alarm_no a))

  pub alarm_value : abstract_of app s number ≡ OfAlarm (is_armed (alarm_state s a))
  alarm_value = ap (part_of s) (component_here app (component.Alarm (alarm_no a)) known)

  pub tests_alarm : (armed : Bool) → is_armed (alarm_state s a) ≡ armed → passes (test.Is (OfAlarm armed)) (abstract_of app s number) ≡ true
  tests_alarm armed e = ap (passes (test.Is (OfAlarm armed))) (alarm_value ∙ ap OfAlarm e) ∙ part_itself (OfAlarm armed)

  pub alarm_tested : (armed : Bool) → passes (test.Is (OfAlarm armed)) (abstract_of app s number) ≡ true → is_armed (alarm_state s a) ≡ armed
  alarm_tested armed e = of_alarm (part_right (OfAlarm (is_armed (alarm_state s a))) (OfAlarm armed) (ap (passes (test.Is (OfAlarm armed))) (sym alarm_value) ∙ e))
    where
      of_alarm : {x y : Bool} → OfAlarm x ≡ OfAlarm y → x ≡ y
      of_alarm e = cc

-- A service in this state sees of the tasks what those are in the other.
pub record Sees (app : App) (s m : State) : Type 0 where
  pub size : length m.tasks ≡ length app.tasks
  pub suspended : (t : ℕ) → is_suspended (task_state m t) ≡ is_suspended (task_state s t)
  pub waiting : (t : ℕ) → waiting_block (task_state m t).activity ≡ waiting_block (task_state s t).activity
  pub full : (n t : ℕ) → is_full_by n (task_state m t).activity ≡ is_full_by n (task_state s t).activity
  -- what isn't Live has no place in the line, and what is Live and waits for the processor has one
  pub absent : (t : ℕ) → is_live (task_state m t) ≡ false → places m t ≡ 0
  pub placed : (t : ℕ) → is_live (task_state m t) ≡ true → is_that_task (task_of m.processor) t ≡ false → 0 < places m t

none_due : (o : Option TaskNo) (t : ℕ) (a : Activity) → is_live_activity a ≡ false → places_due o t a ≡ 0
none_due o t activity.Suspended e = refl
none_due o t (activity.Live x) e = absurd (cc)
none_due o t (activity.Waiting b) e = refl

-- after the caller's move
pub moved_sees : (app : App) (s : State) (r : Runner) (b n : BlockNo) → Stands app s r b → Well app (moved_to s n) → Sees app s (moved_to s n)
moved_sees app s r b n h well = record {
  size = well.tasks_len;
  absent = λ t e. well.line t ∙ none_due (task_of (moved_to s n).processor) t (task_state (moved_to s n) t).activity e;
  placed = λ t e waits. subst (λ (k : ℕ). 0 < k) (sym (well.line t)) (some_due (task_of (moved_to s n).processor) t (task_state (moved_to s n) t).activity e waits);
  full = λ k t. moved_keeps_of app s h.well (place_at n 0) (λ (x : TaskState). is_full_by k x.activity) (λ x. still_full k x.activity (place_at n 0)) t;
  suspended = λ t. moved_suspended app s h.well (place_at n 0) t;
  waiting = λ t. moved_keeps_of app s h.well (place_at n 0) (λ (x : TaskState). waiting_block x.activity) (λ x. still_waiting x.activity (place_at n 0)) t;
}

-- whether a task is suspended or takes a further activation, which conditions on it tell
module _ (app : App) (s m : State) (t : ℕ) (known : t < length app.tasks) (sees : Sees app s m) where
  pub off_there : PassesAll app (condition t test.Suspended ∷ []) (abstract_of app s) → is_suspended (task_state m t) ≡ true
  off_there passing = sees.suspended t ∙ sym (tests_suspended app s t known) ∙ one_passes app (abstract_of app s) (condition t test.Suspended) passing (task_counted app t known)

  pub on_there : PassesAll app (condition t test.NotSuspended ∷ []) (abstract_of app s) → is_suspended (task_state m t) ≡ false
  on_there passing = sees.suspended t ∙ not-true (is_suspended (task_state s t)) (sym (tests_not_suspended app s t known) ∙ one_passes app (abstract_of app s) (condition t test.NotSuspended) passing (task_counted app t known))

  pub full_there : (n : ℕ) → PassesAll app (condition t (test.Full n) ∷ []) (abstract_of app s) → is_full_by n (task_state m t).activity ≡ true
  full_there n passing = sees.full n t ∙ sym (tests_full app s t known n) ∙ one_passes app (abstract_of app s) (condition t (test.Full n)) passing (task_counted app t known)

  pub room_there : (n : ℕ) → PassesAll app (condition t (test.Room n) ∷ []) (abstract_of app s) → (is_suspended (task_state m t) ≡ false) × (is_full_by n (task_state m t).activity ≡ false)
  room_there n passing =
      let both = and_parts (not (is_suspended (task_state s t))) (not (is_full_by n (task_state s t).activity))
      (sym (tests_room app s t known n) ∙ one_passes app (abstract_of app s) (condition t (test.Room n)) passing (task_counted app t known)) in (
        sees.suspended t ∙ not-true (is_suspended (task_state s t)) both.0,
        sees.full n t ∙ not-true (is_full_by n (task_state s t).activity) both.1,
      )

pub off_passes : (app : App) (s : State) (t : ℕ) → t < length app.tasks → is_suspended (task_state s t) ≡ true → PassesAll app (condition t test.Suspended ∷ []) (abstract_of app s)
off_passes app s t known e = passes_one app (abstract_of app s) (condition t test.Suspended) (tests_suspended app s t known ∙ e)

pub off_or_on : (app : App) (s : State) (t : ℕ) → t < length app.tasks → PassesAll app (condition t test.Suspended ∷ []) (abstract_of app s) ⊎ PassesAll app (condition t test.NotSuspended ∷ []) (abstract_of app s)
off_or_on app s t known = elim (cases_Bool (is_suspended (task_state s t))) [
  | inl e ↦ inl (off_passes app s t known e)
  | inr e ↦ inr (passes_one app (abstract_of app s) (condition t test.NotSuspended) (tests_not_suspended app s t known ∙ ap not e))
]

-- of the conditions of an activation one passes
pub activation_passes : (app : App) (s : State) (t n : ℕ) → t < length app.tasks →
    PassesAll app (condition t (test.Full n) ∷ []) (abstract_of app s) ⊎ (PassesAll app (condition t test.Suspended ∷ []) (abstract_of app s) ⊎ PassesAll app (condition t (test.Room n) ∷ []) (abstract_of app s))
activation_passes app s t n known = elim (cases_Bool (is_suspended (task_state s t))) [
  | inl off ↦ inr (inl (off_passes app s t known off))
  | inr on ↦ elim (cases_Bool (is_full_by n (task_state s t).activity)) [
    | inl full ↦ inl (passes_one app (abstract_of app s) (condition t (test.Full n)) (tests_full app s t known n ∙ full))
    | inr room ↦ inr (inr (passes_one app (abstract_of app s) (condition t (test.Room n))
        (tests_room app s t known n ∙ and_from (not (is_suspended (task_state s t))) (not (is_full_by n (task_state s t).activity)) (ap not on) (ap not room))))
  ]
]
