-- States in which the tasks that are underway are stacked as in another one.
use Rattle.std.proofs.Common.{◌≡◌, ℕ, ◌+◌, ◌<◌, Bool, true, false, cond, ◌∷◌, refl, sym, ap, ◌∙◌, inl, inr, arith, Some, None}
use Rattle.std.proofs.lemmas.Bool.{false≢true}
use Rattle.std.specs.declared.option.Option.{Option}
use Rattle.osek_values.specs.{declared.numbers.TaskNo.{TaskNo}, Line.{place_in_line}}
use Rattle.osek_standard.specs.declared.{app.App.{App}, state.{State.{State}, Processor.{Processor}}, task_state.{TaskState.{TaskState}}}
use Rattle.osek_standard.specs.{TaskStates.{is_live}, States.{is_that_task, task_of, task_state, with_processor}}
use Rattle.osek_standard.specs.{Internal.{occupied}, Line.{first_in_line, turn}, Priority.{base_priority, highest}}
use Rattle.osek_standard.specs.Services.{with_events}
use Rattle.kernel_guarantees.specs.Underway.{IsStacked, is_begun, is_current, is_underway}
use Rattle.kernel_guarantees.proofs.{Dispatching.{first_order}, Lookups.{put_task}, Stacked.{under_is_live}}

-- a task in this state is as Live, as far and as high as in that one
pub record IsAlike (app : App) (t : ℕ) (x y : TaskState) : Type 0 where
  pub live : is_live y ≡ is_live x
  pub begun : is_begun app t y ≡ is_begun app t x
  pub priority : highest app (base_priority app t) (occupied app t y) ≡ highest app (base_priority app t) (occupied app t x)

pub alike : (app : App) (t : ℕ) (x : TaskState) → IsAlike app t x x
alike app t x = record { live = refl; begun = refl; priority = refl }

module _ (app : App) where
  -- where none is underway, nothing is to be kept
  pub none_stacked : (s : State) → ((t : ℕ) → is_underway app s t ≡ false) → IsStacked app s
  none_stacked s none = record {
    apart = λ t u ne under also. absurd (false≢true (sym (none t) ∙ under));
    below = λ c u now other under. absurd (false≢true (sym (none u) ∙ under));
    ahead = λ t u ne under ready live free tie. absurd (false≢true (sym (none t) ∙ under));
  }

  module _ (s : State) (stacked : IsStacked app s) where
    -- tasks that are alike, over the same task, with the turns of those that are ready in the same order
    pub regrouped : (r : State) → ((u : ℕ) → IsAlike app u (task_state s u) (task_state r u)) → ((u : ℕ) → is_current r u ≡ is_current s u)
        → ((t u : ℕ) → is_live (task_state s t) ≡ true → is_current s t ≡ false → is_live (task_state s u) ≡ true → is_current s u ≡ false → turn s t < turn s u → turn r t < turn r u)
        → IsStacked app r
    regrouped r same current order = record {
      apart = λ t u ne under also. elim (stacked.apart t u ne (sym (same t).begun ∙ under) (sym (same u).begun ∙ also)) [
        | inl h ↦ inl (omega (arith, h, (same t).priority))
        | inr h ↦ inr (omega (arith, h, (same u).priority))
      ];
      below = λ c u now other under. let h = stacked.below c u (sym (current c) ∙ now) other (sym (same u).begun ∙ under) in omega (arith, h, (same u).priority);
      ahead = λ t u ne under ready live free tie.
          let was = sym (same t).begun ∙ under in
          let was_live = sym (same u).live ∙ live in
          let was_ready = sym (current t) ∙ ready in
          let was_free = sym (current u) ∙ free in
          order t u (under_is_live app s t was) was_ready was_live was_free (stacked.ahead t u ne was was_ready was_live was_free (sym (same t).priority ∙ tie ∙ (same u).priority));
    }

    -- a task with other events
    pub events_keep : (t m : ℕ) → IsStacked app (with_events s t m)
    events_keep t m = regrouped (with_events s t m) (λ u. put_task s t _ (λ v y. IsAlike app v (task_state s v) y) (record { live = refl; begun = refl; priority = refl }) (λ v. alike app v (task_state s v)) u)
        (λ u. refl) (λ a b la ra lb rb h. h)

    -- another processor over the same task
    pub processor_keeps : (p : Processor) → task_of p ≡ task_of s.processor → IsStacked app (with_processor s p)
    processor_keeps p same =
        let current : (u : ℕ) → is_that_task (task_of p) u ≡ is_current s u = λ u. ap (λ (o : Option TaskNo). is_that_task o u) same in
        let turns : (u : ℕ) → turn (with_processor s p) u ≡ turn s u = λ u. ap (λ (b : Bool). cond b 0 (1 + place_in_line s.line u)) (current u) in
        regrouped (with_processor s p) (λ u. alike app u (task_state s u)) current (λ a b la ra lb rb h. omega (arith, h, turns a, turns b))

    -- the current task goes first in the line, and none is current
    pub first_keeps : (o : Option TaskNo) (p : Processor) → task_of s.processor ≡ o → task_of p ≡ None → IsStacked app (with_processor (first_in_line s o) p)
    first_keeps None p same none = processor_keeps p (none ∙ sym same)
    first_keeps (Some c) p same none =
        let free : (u : ℕ) → is_that_task (task_of p) u ≡ false = λ u. ap (λ (o : Option TaskNo). is_that_task o u) none in
        let turns : (u : ℕ) → turn (with_processor (first_in_line s (Some c)) p) u ≡ 1 + place_in_line (c ∷ s.line) u = λ u. ap (λ (b : Bool). cond b 0 (1 + place_in_line (c ∷ s.line) u)) (free u) in
        record {
          apart = stacked.apart;
          below = λ d u now other under. absurd (false≢true (sym (free d) ∙ now));
          ahead = λ t u ne under ready live idle tie. let h = first_order app s stacked c same t u ne under live tie in omega (arith, h, turns t, turns u);
        }
