-- Whatever becomes of the task that runs or is interrupted, and stays so, the tasks stay stacked that are underway; and who may run beside what
-- another one has.
use Rattle.std.proofs.{Common.{◌≡◌, ◌≢◌, ℕ, ◌<◌, true, false, ◌&&◌, refl, sym, subst, ap, ◌∙◌, inl, inr, arith, Some, None, get_or-set_other}}
use Rattle.std.proofs.lemmas.Bool.{cases_eq, eq-eqb, eqb-true, false≢true}
use Rattle.std.specs.{declared.option.Option.{Option}}
use Rattle.osek_values.specs.declared.numbers.{TaskNo.{TaskNo}}
use Rattle.osek_standard.specs.declared.{app.App.{App}, state.State.{State}, task_state.TaskState.{TaskState}}
use Rattle.osek_standard.specs.{TaskStates.{is_live, suspended}, States.{is_that_task, task_of, task_state, with_task}, Internal.{kept, kept_by, occupied}}
use Rattle.osek_standard.specs.Priority.{base_priority, current_priority, highest}
use Rattle.osek_standard.specs.declared.state.Processor.{Processor}
use Rattle.osek_standard.specs.declared.state.Processor.TheVariants as processor
use Rattle.kernel_guarantees.specs.Underway.{IsStacked, has_begun, is_current, is_underway}

pub one_current : (o : Option TaskNo) (a b : ℕ) → is_that_task o a ≡ true → is_that_task o b ≡ true → a ≡ b
one_current None a b e f = absurd (false≢true e)
one_current (Some v) a b e f = sym (eqb-true v.0 a e) ∙ eqb-true v.0 b f

module _ (app : App) (s : State) (stacked : IsStacked app s) where
  -- another state of the task that runs or is interrupted
  module _ (c : ℕ) (mine : is_current s c ≡ true) (y : TaskState) where
    abbrev changed : State
    changed = with_task s c y

    same_task : (u : ℕ) → u ≢ c → task_state changed u ≡ task_state s u
    same_task u other = get_or-set_other s.tasks c u y suspended other

    same_under : (u : ℕ) → u ≢ c → is_underway app changed u ≡ is_underway app s u
    same_under u other = ap (λ (z : TaskState). is_live z && has_begun app u z) (same_task u other)

    same_priority : (u : ℕ) → u ≢ c → current_priority app changed u ≡ current_priority app s u
    same_priority u other = ap (λ (z : TaskState). highest app (base_priority app u) (occupied app u z)) (same_task u other)

    below_it : (u : ℕ) → u ≢ c → is_underway app changed u ≡ true → current_priority app changed u < base_priority app c
    below_it u other under = let h = stacked.below c u mine other (sym (same_under u other) ∙ under) in omega (arith, h, same_priority u other)

    beside : (t : ℕ) → is_current s t ≡ false → t ≢ c
    beside t ready same = false≢true (sym ready ∙ subst (λ (v : ℕ). is_current s v ≡ true) (sym same) mine)

    pub current_changes : IsStacked app changed
    current_changes = record {
      apart = λ t u ne a b. elim (cases_eq t c) [
        | inl same ↦ inr (subst (λ (v : ℕ). current_priority app changed u < base_priority app v) (sym same) (below_it u (λ f. ne (same ∙ sym f)) b))
        | inr other ↦ elim (cases_eq u c) [
          | inl same ↦ inl (subst (λ (v : ℕ). current_priority app changed t < base_priority app v) (sym same) (below_it t other a))
          | inr also ↦ elim (stacked.apart t u ne (sym (same_under t other) ∙ a) (sym (same_under u also) ∙ b)) [
            | inl h ↦ inl (omega (arith, h, same_priority t other))
            | inr h ↦ inr (omega (arith, h, same_priority u also))
          ]
        ]
      ];
      below = λ d u now other under.
          let same : c ≡ d = one_current (task_of s.processor) c d mine now in
          subst (λ (v : ℕ). current_priority app changed u < base_priority app v) same (below_it u (λ f. other (f ∙ same)) under);
      ahead = λ t u ne under ready live free tie.
          let other = beside t ready in
          let also = beside u free in
          stacked.ahead t u ne (sym (same_under t other) ∙ under) ready (subst (λ (z : TaskState). is_live z ≡ true) (same_task u also) live) free
          (sym (same_priority t other) ∙ tie ∙ same_priority u also);
    }

  -- so a task that keeps the processor, whatever it did: it moves, takes a resource or gives one back, and is let in again
  kept_for : (p : Processor) → s.processor ≡ p → IsStacked app (kept_by app s p)
  kept_for processor.Halted e = stacked
  kept_for processor.Idle e = stacked
  kept_for (processor.Running t) e = current_changes t.0 (subst (λ (q : Processor). is_that_task (task_of q) t.0 ≡ true) (sym e) (eq-eqb t.0 t.0 refl)) _
  kept_for (processor.Interrupted k over) e = stacked

  pub kept_stacks : IsStacked app (kept app s)
  kept_stacks = kept_for s.processor refl
