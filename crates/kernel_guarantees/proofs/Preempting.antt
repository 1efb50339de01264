-- Which task gets the processor by a step, and which loses it to another.
use Rattle.std.proofs.Common.{◌≡◌, ◌≢◌, ℕ, ◌<◌, ◌≤◌, Bool, true, false, List, refl, sym, subst, ap, ◌∙◌, arith, Some, inl, inr}
use Rattle.std.proofs.lemmas.Bool.{cases_Bool, eqb-true, eq-eqb, false≢true}
use Rattle.std.specs.{Prelude.{slice_index_or}, declared.option.Option.{Option}}
use Rattle.osek_values.specs.declared.{event.Event.{Event}, numbers.TaskNo.{TaskNo}}
use Rattle.osek_standard.specs.declared.{app.App.{App}, state.{State.{State}}}
use Rattle.osek_standard.specs.declared.task_state.TaskState.{TaskState}
use Rattle.osek_standard.specs.{TaskStates.{is_live, suspended}, States.{caller, is_that_task, task_of, task_state}, Kernel.{step}, Internal.{occupied}, Priority.{IsBest, base_priority, current_priority, highest}, Well.{IsActive, Well}}
use Rattle.osek_standard.specs.declared.state.Processor.TheVariants as processor
use Rattle.osek_standard.proofs.PriorityLaws.{best_is}
use Rattle.kernel_guarantees.specs.{Instructions.{is_end}, Reached.{IsReached}, Scheduling.{DoesInstruction, IsPreemption, kind_at, reschedules}, Underway.{IsStacked, is_current, is_underway}}
use Rattle.kernel_guarantees.proofs.{Outcomes.{IsOutcome, as_high, effected, greatest, kept_current, next, only_at_points, outcome, rests, unmoved}, Reaching.{reached_is_well}}
use Rattle.kernel_guarantees.proofs.{Stacked.{own, plain}, StackedSteps.{effect_stacks, reached_is_stacked}, Stepping.{IsQuiet, step_goes_by}}

pub that_task : (o : Option TaskNo) (x : TaskNo) → o ≡ Some x → is_that_task o x.0 ≡ true
that_task o x e = ap (λ (p : Option TaskNo). is_that_task p x.0) e ∙ eq-eqb x.0 x.0 refl

module _ (app : App) (s : State) (w : Well app s) (active : IsActive s.processor) (choice : Bool) (stacked : IsStacked app s) where
  abbrev r : State
  r = effected app s w active choice

  abbrev n : State
  n = next app s w active choice

  stays_stacked : IsStacked app r
  stays_stacked = (effect_stacks app s choice w active stacked).0

  -- who is above the one that runs is so by its own priority
  above_by_itself : (c x : TaskNo) → r.processor ≡ processor.Running c → IsBest app r x.0 → current_priority app r c.0 < current_priority app r x.0 → current_priority app r c.0 < base_priority app x.0
  above_by_itself c x runs top high = elim (cases_Bool (is_underway app r x.0)) [
    | inl under ↦ absurd (let now : is_current r c.0 ≡ true = that_task (task_of r.processor) c (ap task_of runs) in
        let low = stays_stacked.below c.0 x.0 now (λ same. omega (arith, high, ap (λ (v : ℕ). current_priority app r v) same)) under in
        omega (arith, low, high, own app r c.0))
    | inr fresh ↦ omega (arith, high, plain app r x.0 top.live fresh)
  ]

  preempts_by : (c x : TaskNo) → task_of s.processor ≡ Some c → task_of n.processor ≡ Some x → x.0 ≢ c.0 → is_end (kind_at app s) ≡ false → is_live (task_state n c.0) ≡ true
      → IsOutcome app s r n → current_priority app n c.0 < base_priority app x.0
  preempts_by c x was now other goes_on live (inl is) =
      let x_was : is_current s x.0 ≡ true = kept_current app s w active choice x.0 (subst (λ (m : State). is_current m x.0 ≡ true) is (that_task (task_of n.processor) x now)) in
      absurd (other (sym (eqb-true c.0 x.0 (sym (ap (λ (o : Option TaskNo). is_that_task o x.0) was) ∙ x_was))))
  preempts_by c x was now other goes_on live (inr (inl g)) =
      let same : g.task ≡ x = cc (ap (λ (m : State). task_of m.processor) g.is, now) in
      let top : IsBest app r x.0 = subst (λ (v : TaskNo). IsBest app r v.0) same (best_is app r g.task g.found) in
      let free : is_current n c.0 ≡ false = elim (cases_Bool (is_current n c.0)) [
        | inl mine ↦ absurd (other (eqb-true x.0 c.0 (sym (ap (λ (o : Option TaskNo). is_that_task o c.0) now) ∙ mine)))
        | inr f ↦ f
      ] in
      elim (g.why c was) [
        | inl up ↦ (let high : current_priority app r c.0 < current_priority app r x.0 = subst (λ (v : TaskNo). current_priority app r c.0 < current_priority app r v.0) same up.1 in
            let low = above_by_itself c x up.0 top high in omega (arith, low, as_high app s w active choice c.0 free))
        | inr gone ↦ absurd (elim gone [
          | inl ends ↦ false≢true (sym goes_on ∙ ends.0)
          | inr dead ↦ false≢true (sym dead ∙ ap is_live (sym (unmoved app s w active choice c.0 free)) ∙ live)
        ])
      ]
  preempts_by c x was now other goes_on live (inr (inr h)) = absurd (cc (ap (λ (m : State). task_of m.processor) h.is, now))

module _ (app : App) (s : State) (reached : IsReached app s) (e : Event) where
  abbrev after_step : State
  after_step = (step app s e).state

  well : Well app s
  well = reached_is_well app s reached

  -- another task becomes current only by an instruction at a point of rescheduling
  pub changes_at_points : (task_of after_step.processor ≡ task_of s.processor → ⊥) → DoesInstruction app s e × (reschedules (caller s.processor) (kind_at app s) ≡ true)
  changes_at_points changed = elim (step_goes_by app s e) [
    | inl quiet ↦ absurd (changed quiet.current)
    | inr i ↦ (
      i.does,
      elim (cases_Bool (reschedules (caller s.processor) (kind_at app s))) [
        | inl at ↦ at
        | inr off ↦ absurd (changed (ap (λ (m : State). task_of m.processor) i.is ∙ only_at_points app s well i.does.active i.does.choice off))
      ],
    )
  ]

  quiet_current : IsQuiet app s e after_step → (x : ℕ) → is_current after_step x ≡ is_current s x
  quiet_current quiet x = ap (λ (o : Option TaskNo). is_that_task o x) quiet.current

  -- who gets the processor had a greatest current priority
  pub greatest_gets : (x u : ℕ) → is_current s x ≡ false → is_current after_step x ≡ true → u ≢ x → is_live (task_state after_step u) ≡ true → current_priority app after_step u ≤ current_priority app s x
  greatest_gets x u free now other live = elim (step_goes_by app s e) [
    | inl quiet ↦ absurd (false≢true (sym free ∙ sym (quiet_current quiet x) ∙ now))
    | inr i ↦ subst (λ (m : State). current_priority app m u ≤ current_priority app s x) (sym i.is)
        (greatest app s well i.does.active i.does.choice x u free (subst (λ (m : State). is_current m x ≡ true) i.is now) other (subst (λ (m : State). is_live (task_state m u) ≡ true) i.is live))
  ]

  -- a task is preempted only by one of a higher own priority
  pub preempts : (c x : TaskNo) → IsPreemption app s e c x → current_priority app after_step c.0 < base_priority app x.0
  preempts c x p = elim (step_goes_by app s e) [
    | inl quiet ↦ absurd (p.other (let same : c ≡ x = cc (quiet.current, p.had, p.gets) in ap (λ (v : TaskNo). v.0) (sym same)))
    | inr i ↦ subst (λ (m : State). current_priority app m c.0 < base_priority app x.0) (sym i.is)
        (preempts_by app s well i.does.active i.does.choice (reached_is_stacked app s reached) c x p.had (subst (λ (m : State). task_of m.processor ≡ Some x) i.is p.gets) p.other p.goes_on
        (subst (λ (m : State). is_live (task_state m c.0) ≡ true) i.is p.live) (outcome app s well i.does.active i.does.choice))
  ]

  -- a task that doesn't have the processor before or after stays as high as it is
  pub waits_as_high : (u : ℕ) → is_current s u ≡ false → is_current after_step u ≡ false → current_priority app after_step u ≡ current_priority app s u
  waits_as_high u free beside = elim (step_goes_by app s e) [
    | inl quiet ↦ ap (λ (tasks : List TaskState). highest app (base_priority app u) (occupied app u (slice_index_or tasks u suspended))) quiet.tasks
    | inr i ↦ ap (λ (m : State). current_priority app m u) i.is
        ∙ as_high app s well i.does.active i.does.choice u (subst (λ (m : State). is_current m u ≡ false) i.is beside) ∙ (rests app s well i.does.active i.does.choice u free).priority
  ]
