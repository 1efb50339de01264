-- A task that becomes Live and goes last in the line, and one that leaves the processor, keep the tasks stacked that are underway.
use Rattle.std.proofs.{Common.{◌≡◌, ◌≢◌, ◌⊎◌, ℕ, ◌+◌, ◌<◌, Bool, true, false, cond, ◌&&◌, [], ◌∷◌, ◌++◌, length, sym, subst, ap, ◌∙◌, inl, inr, arith, get_or-set_other, get_or-set_same}}
use Rattle.std.proofs.lemmas.Bool.{cases_eq, false≢true}
use Rattle.osek_values.specs.{Numbers.{task_no}, Line.{place_in_line}}
use Rattle.osek_standard.specs.declared.{app.App.{App}, state.{State.{State}}, task_state.TaskState.{TaskState}}
use Rattle.osek_standard.specs.{TaskStates.{is_live, suspended}, States.{task_state, with_processor, with_task}, Internal.{occupied}, Line.{last_in_line, places, turn}}
use Rattle.osek_standard.specs.Priority.{base_priority, current_priority, highest}
use Rattle.osek_standard.specs.declared.state.Processor.TheVariants as processor
use Rattle.kernel_guarantees.specs.Underway.{IsStacked, has_begun, is_begun, is_current, is_underway}
use Rattle.kernel_guarantees.proofs.{Lines.{place_within, place_kept, place_last}, Stacked.{own, under_is_live}}

module _ (app : App) (s : State) (stacked : IsStacked app s) where
  -- each Live task that is ready has a place
  abbrev pub AllHavePlaces : Type 0
  AllHavePlaces = (u : ℕ) → is_live (task_state s u) ≡ true → is_current s u ≡ false → 0 < places s u

  module _ (t : ℕ) (y : TaskState) (known : t < length s.tasks) (fresh : is_begun app t y ≡ false) where
    abbrev changed : State
    changed = with_task s t y

    same_task : (u : ℕ) → u ≢ t → task_state changed u ≡ task_state s u
    same_task u other = get_or-set_other s.tasks t u y suspended other

    not_it : (u : ℕ) → is_underway app changed u ≡ true → u ≢ t
    not_it u under same =
        let here : task_state changed t ≡ y = get_or-set_same s.tasks t y suspended known in
        let begun : is_underway app changed t ≡ false = subst (λ (z : TaskState). is_begun app t z ≡ false) (sym here) fresh in
        false≢true (sym begun ∙ subst (λ (v : ℕ). is_underway app changed v ≡ true) same under)

    same_under : (u : ℕ) → u ≢ t → is_underway app changed u ≡ is_underway app s u
    same_under u other = ap (λ (z : TaskState). is_live z && has_begun app u z) (same_task u other)

    was_under : (u : ℕ) → is_underway app changed u ≡ true → is_underway app s u ≡ true
    was_under u under = sym (same_under u (not_it u under)) ∙ under

    same_priority : (u : ℕ) → u ≢ t → current_priority app changed u ≡ current_priority app s u
    same_priority u other = ap (λ (z : TaskState). highest app (base_priority app u) (occupied app u z)) (same_task u other)

    apart_still : (a b : ℕ) → a ≢ b → is_underway app changed a ≡ true → is_underway app changed b ≡ true
        → (current_priority app changed a < base_priority app b) ⊎ (current_priority app changed b < base_priority app a)
    apart_still a b ne f g = elim (stacked.apart a b ne (was_under a f) (was_under b g)) [
      | inl h ↦ inl (omega (arith, h, same_priority a (not_it a f)))
      | inr h ↦ inr (omega (arith, h, same_priority b (not_it b g)))
    ]

    -- a task that isn't Live becomes so, and goes last
    pub joining_keeps : AllHavePlaces → places s t ≡ 0 → IsStacked app (last_in_line changed t)
    joining_keeps have none = record {
      apart = λ a b. apart_still a b;
      below = λ c u mine other under. let h = stacked.below c u mine other (was_under u under) in omega (arith, h, same_priority u (not_it u under));
      ahead = λ a b ne under ready live free tie.
          let a_other = not_it a under in
          let was = was_under a under in
          let a_place = have a (under_is_live app s a was) ready in
          let a_kept = place_kept (task_no t) s.line a a_place in
          let a_turn : turn (last_in_line changed t) a ≡ 1 + place_in_line (s.line ++ task_no t ∷ []) a = ap (λ (o : Bool). cond o 0 (1 + place_in_line (s.line ++ task_no t ∷ []) a)) ready in
          let b_turn : turn (last_in_line changed t) b ≡ 1 + place_in_line (s.line ++ task_no t ∷ []) b = ap (λ (o : Bool). cond o 0 (1 + place_in_line (s.line ++ task_no t ∷ []) b)) free in
          elim (cases_eq b t) [
            | inl same ↦ (let last : place_in_line (s.line ++ task_no t ∷ []) b ≡ length s.line = subst (λ (v : ℕ). place_in_line (s.line ++ task_no t ∷ []) v ≡ length s.line) (sym same) (place_last (task_no t) s.line none) in
                let inside = place_within s.line a a_place in omega (arith, a_turn, b_turn, a_kept, last, inside))
            | inr other ↦ (let b_live : is_live (task_state s b) ≡ true = subst (λ (z : TaskState). is_live z ≡ true) (same_task b other) live in
                let b_kept = place_kept (task_no t) s.line b (have b b_live free) in
                let h = stacked.ahead a b ne was ready b_live free (sym (same_priority a a_other) ∙ tie ∙ same_priority b other) in
                let a_was : turn s a ≡ 1 + place_in_line s.line a = ap (λ (o : Bool). cond o 0 (1 + place_in_line s.line a)) ready in
                let b_was : turn s b ≡ 1 + place_in_line s.line b = ap (λ (o : Bool). cond o 0 (1 + place_in_line s.line b)) free in
                omega (arith, a_turn, b_turn, a_kept, b_kept, a_was, b_was, h))
          ];
    }

    -- the running task ends or waits, and leaves the processor
    pub leaving_keeps : is_current s t ≡ true → ((u : ℕ) → u ≢ t → is_current s u ≡ false) → IsStacked app (with_processor changed processor.Idle)
    leaving_keeps mine alone = record {
      apart = λ a b. apart_still a b;
      below = λ c u now other under. absurd (false≢true now);
      ahead = λ a b ne under ready live free tie.
          let a_other = not_it a under in
          let was = was_under a under in
          elim (cases_eq b t) [
            | inl same ↦ absurd (let low = stacked.below t a mine a_other was in
                let base : base_priority app b ≡ base_priority app t = ap (λ (v : ℕ). base_priority app v) same in
                omega (arith, low, tie, same_priority a a_other, base, own app changed b))
            | inr other ↦ (let b_live : is_live (task_state s b) ≡ true = subst (λ (z : TaskState). is_live z ≡ true) (same_task b other) live in
                let h = stacked.ahead a b ne was (alone a a_other) b_live (alone b other) (sym (same_priority a a_other) ∙ tie ∙ same_priority b other) in
                let a_was : turn s a ≡ 1 + place_in_line s.line a = ap (λ (o : Bool). cond o 0 (1 + place_in_line s.line a)) (alone a a_other) in
                let b_was : turn s b ≡ 1 + place_in_line s.line b = ap (λ (o : Bool). cond o 0 (1 + place_in_line s.line b)) (alone b other) in
                omega (arith, h, a_was, b_was))
          ];
    }
