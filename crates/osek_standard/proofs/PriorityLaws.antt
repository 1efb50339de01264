-- Which task is best: the computed one is the one with the property.
use Rattle.std.proofs.{Common.{◌≡◌, ℕ, ◌<◌, true, false, length, refl, sym, ap, subst, inl, inr, Some, None}, lemmas.{Bool.{cases_Bool, cases_lt, cases_eq}, List.{get_or_past}}}
use Rattle.std.specs.{Prelude.{option_map}, declared.option.Option.{Option}}
use Rattle.osek_values.specs.{declared.numbers.TaskNo.{TaskNo}, Numbers.{task_no}}
use Rattle.osek_standard.specs.{declared.{app.App.{App}, state.State.{State}, task_state.TaskState.{TaskState}}, TaskStates.{is_live, suspended}, States.{task_state, live_tasks}}
use Rattle.osek_standard.specs.{Priority.{best, IsBest, goes_before, current_priority}, Line.{turn}}
use Rattle.osek_standard.proofs.{Members.{Among, among_passing, passing_among}, FirstLaws.{Orders, IsFirst, first_is, is_first, none_first, first_none}, TurnLaws.{turn_once}}
use Rattle.osek_standard.proofs.AheadLaws.{either_ahead, once_ahead, onward_ahead, ahead_apart, apart_ahead, ahead_of_itself}

number_of : (o : Option ℕ) (t : TaskNo) → option_map task_no o ≡ Some t → o ≡ Some t.0
number_of None t e = absurd (cc)
number_of (Some n) t e = cc

no_number : (o : Option ℕ) → option_map task_no o ≡ None → o ≡ None
no_number None e = refl
no_number (Some n) e = absurd (cc)

-- a Live task is in the table
pub live_known : (s : State) (t : ℕ) → is_live (task_state s t) ≡ true → t < length s.tasks
live_known s t live = elim (cases_lt t (length s.tasks)) [
  | inl h ↦ h
  | inr h ↦ (let not_live : is_live (task_state s t) ≡ false = ap (λ (x : TaskState). is_live x) (get_or_past s.tasks t suspended h) in absurd (cc))
]

module _ (app : App) (s : State) where
  -- the rule of the best task orders all tasks
  pub before_orders : Orders (goes_before app s)
  before_orders = record {
    either = λ t u. either_ahead (current_priority app s t) (turn s t) (current_priority app s u) (turn s u);
    once = λ t u e f. turn_once s t u (once_ahead (current_priority app s t) (turn s t) (current_priority app s u) (turn s u) e f);
    onward = λ t u v e f. onward_ahead (current_priority app s t) (turn s t) (current_priority app s u) (turn s u) (current_priority app s v) (turn s v) e f;
  }

  among_live : (t : ℕ) → is_live (task_state s t) ≡ true → Among t (live_tasks s)
  among_live t live = among_passing (λ u. is_live (task_state s u)) (length s.tasks) t (live_known s t live) live

  live_among : (t : ℕ) → Among t (live_tasks s) → (is_live (task_state s t) ≡ true) × (t < length s.tasks)
  live_among t m = passing_among (λ u. is_live (task_state s u)) (length s.tasks) t m

  -- the Live task that goes before each Live task is the best
  pub best_found : (t : ℕ) → t < length s.tasks → is_live (task_state s t) ≡ true →
      ((u : ℕ) → u < length s.tasks → is_live (task_state s u) ≡ true → goes_before app s t u ≡ true) → best app s ≡ Some (task_no t)
  unfolding best
  best_found t known live first = ap (option_map task_no) (is_first (goes_before app s) before_orders (live_tasks s) t (record {
    among = among_live t live;
    before_each = λ u m. first u (live_among u m).1 (live_among u m).0;
  }))

  pub best_none : ((u : ℕ) → u < length s.tasks → is_live (task_state s u) ≡ false) → best app s ≡ None
  unfolding best
  best_none none = ap (option_map task_no) (none_first (goes_before app s) (live_tasks s)
      (λ u m. let e : is_live (task_state s u) ≡ true = (live_among u m).0 in let f : is_live (task_state s u) ≡ false = none u (live_among u m).1 in absurd (cc)))

  first_live : (t : TaskNo) → best app s ≡ Some t → IsFirst (goes_before app s) (live_tasks s) t.0
  unfolding best
  first_live t e = first_is (goes_before app s) (live_tasks s) t.0 (number_of _ t e)

  -- the best task is Live
  pub best_is_live : (t : TaskNo) → best app s ≡ Some t → (is_live (task_state s t.0) ≡ true) × (t.0 < length s.tasks)
  best_is_live t e = live_among t.0 (first_live t e).among

  -- the best task has the property
  pub best_is : (t : TaskNo) → best app s ≡ Some t → IsBest app s t.0
  best_is t e = record {
    live = (best_is_live t e).0;
    others =
        λ u live other. ahead_apart (current_priority app s t.0) (turn s t.0) (current_priority app s u) (turn s u) ((first_live t e).before_each u (among_live u live))
        (λ same. other (turn_once s u t.0 same));
  }

  -- a task with the property is the best
  pub is_best : (t : ℕ) → IsBest app s t → best app s ≡ Some (task_no t)
  is_best t h = best_found t (live_known s t h.live) h.live (λ u _ live. elim (cases_eq u t) [
    | inl e ↦ subst (λ (v : ℕ). goes_before app s t v ≡ true) (sym e) (ahead_of_itself (current_priority app s t) (turn s t))
    | inr other ↦ apart_ahead (current_priority app s t) (turn s t) (current_priority app s u) (turn s u) (h.others u live other)
  ])

  -- where none is best, no task is Live
  pub none_live : best app s ≡ None → (u : ℕ) → is_live (task_state s u) ≡ false
  unfolding best
  none_live e u = elim (cases_Bool (is_live (task_state s u))) [
    | inl live ↦ absurd (first_none (goes_before app s) before_orders (live_tasks s) (no_number _ e) u (among_live u live))
    | inr f ↦ f
  ]

  best_or_none : (o : Option TaskNo) → best app s ≡ o → (u : ℕ) → is_live (task_state s u) ≡ true → (t : TaskNo) × IsBest app s t.0
  best_or_none None e u live = let f : is_live (task_state s u) ≡ false = none_live e u in absurd (cc)
  best_or_none (Some t) e u live = (t, best_is t e)

  -- where a task is Live, one is best
  pub some_best : (u : ℕ) → is_live (task_state s u) ≡ true → (t : TaskNo) × IsBest app s t.0
  some_best u live = best_or_none (best app s) refl u live
