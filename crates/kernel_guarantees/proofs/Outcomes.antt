-- What an outcome makes of the state after an effect, and who gets the processor by it.
use Rattle.std.proofs.Common.{◌≡◌, ◌≢◌, ◌⊎◌, ℕ, ◌<◌, ◌≤◌, Bool, true, false, refl, sym, subst, ap, ◌∙◌, arith, nat_lt, Some, None, inl, inr, get_or-set_other}
use Rattle.std.proofs.lemmas.Bool.{Decides.{nat_tests}, cases_Bool, eqb-false, eqb-true, eq-eqb, false≢true, ne_eqb}
use Rattle.std.specs.{declared.option.Option.{Option}}
use Rattle.osek_values.specs.{declared.{numbers.{TaskNo.{TaskNo}}, status.Ask.{Ask}}, Numbers.{task_no}}
use Rattle.osek_values.specs.declared.status.Ask.TheVariants as ask
use Rattle.osek_standard.specs.declared.{app.App.{App}, task_state.TaskState.{TaskState}, state.{State.{State}, Processor.{Processor}, Caller.{Caller, TheVariants.{Nobody, Task, Routine}}}}
use Rattle.osek_standard.specs.{TaskStates.{is_live, suspended}, States.{caller, is_that_task, task_of, task_state, with_processor}, Internal.{kept, kept_by, occupied, put_inside}, Line.{first_in_line, out_of_line}}
use Rattle.osek_standard.specs.{Effects.{effect}, Priority.{IsBest, base_priority, best, current_priority, highest}, Well.{IsActive, Well}}
use Rattle.osek_standard.specs.Dispatch.{Outcome, dispatched, if_above, if_any, instruction, outcome_by, preempted_by, settled}
use Rattle.osek_standard.specs.declared.state.Processor.TheVariants as processor
use Rattle.osek_standard.proofs.{PriorityLaws.{best_is, none_live}}
use Rattle.kernel_guarantees.specs.{Instructions.{is_end}, Scheduling.{kind_at, reschedules}, Underway.{is_current, is_underway}}
use Rattle.kernel_guarantees.proofs.{Others.{effect_becomes}, Rescheduling.{HasAsked, HasLeft, effect_asks}, Resting.{IsResting, rests_by_services}, Serving.{either_by, running}}

module _ (app : App) (s r : State) where
  -- why the task c has the processor no more: another one is above it, or it left
  abbrev pub GaveUp : TaskNo → TaskNo → Type 0
  GaveUp x c = ((r.processor ≡ processor.Running c) × (current_priority app r c.0 < current_priority app r x.0)) ⊎ (((is_end (kind_at app s) ≡ true) × (is_underway app r c.0 ≡ false)) ⊎ (is_live (task_state r c.0) ≡ false))

  -- the best task gets the processor
  pub record IsGiven (n : State) : Type 0 where
    pub task : TaskNo
    pub found : best app r ≡ Some task
    pub is : n ≡ dispatched app r (Some task)
    pub beside : is_current r task.0 ≡ false
    pub why : (c : TaskNo) → task_of s.processor ≡ Some c → GaveUp task c

  -- no task is ready, and the processor is idle
  pub record IsEmptied (n : State) : Type 0 where
    pub none : (t : ℕ) → is_live (task_state r t) ≡ false
    pub is : n ≡ dispatched app r None

  abbrev pub IsOutcome : State → Type 0
  IsOutcome n = (n ≡ kept app r) ⊎ (IsGiven n ⊎ IsEmptied n)

  same_task : (c d : TaskNo) → task_of s.processor ≡ Some c → task_of s.processor ≡ Some d → c ≡ d
  same_task c d e f = cc (e, f)

  beside_by : (c x : TaskNo) → r.processor ≡ processor.Running c → current_priority app r c.0 < current_priority app r x.0 → is_current r x.0 ≡ false
  beside_by c x e above = elim (cases_Bool (is_current r x.0)) [
    | inl now ↦ absurd (let same : c.0 ≡ x.0 = eqb-true c.0 x.0 (sym (ap (λ (p : Processor). is_that_task (task_of p) x.0) e) ∙ now) in omega (arith, above, ap (λ (v : ℕ). current_priority app r v) same))
    | inr free ↦ free
  ]

  above_by : (c : TaskNo) (o : Option TaskNo) → r.processor ≡ processor.Running c → task_of s.processor ≡ Some c → best app r ≡ o → IsOutcome (settled app r (if_above app r c o))
  above_by c None e f found = inl refl
  above_by c (Some x) e f found = either_by (λ (o : Outcome). IsOutcome (settled app r o)) (nat_lt (current_priority app r c.0) (current_priority app r x.0)) _ _
      (λ g. let above : current_priority app r c.0 < current_priority app r x.0 = grind (arith, nat_tests) in
      inr (inl (record { task = x; found = found; is = refl; beside = beside_by c x e above; why = λ d was. subst (GaveUp x) (same_task c d f was) (inl (e, above)) })))
      (λ _. inl refl)

  preempted_by_any : (c : TaskNo) → r.processor ≡ processor.Running c → task_of s.processor ≡ Some c → (d : Caller) → caller r.processor ≡ d → IsOutcome (settled app r (preempted_by app r d))
  preempted_by_any c e f Nobody is = inl refl
  preempted_by_any c e f (Routine k) is = inl refl
  preempted_by_any c e f (Task d) is = let runs = running r d is in above_by d (best app r) runs (f ∙ ap task_of (sym e) ∙ ap task_of runs) refl

  left_by : HasLeft app s r → (o : Option TaskNo) → best app r ≡ o → IsOutcome (dispatched app r o)
  left_by h None found = inr (inr (record { none = none_live app r found; is = refl }))
  left_by h (Some x) found = inr (inl (record {
    task = x;
    found = found;
    is = refl;
    beside = ap (λ (p : Processor). is_that_task (task_of p) x.0) h.idle;
    why = λ d was. subst (GaveUp x) (same_task h.task d (ap task_of h.ran) was) (inr h.gone);
  }))

  free_by : r.processor ≡ processor.Idle → task_of s.processor ≡ None → (o : Option TaskNo) → best app r ≡ o → IsOutcome (settled app r (if_any o))
  free_by idle none None found = inl refl
  free_by idle none (Some x) found = inr (inl (record { task = x; found = found; is = refl; beside = ap (λ (p : Processor). is_that_task (task_of p) x.0) idle; why = λ d was. absurd (cc (none, was)) }))

  outcome_is : (a : Ask) → HasAsked app s r a → IsOutcome (settled app r (outcome_by app r a))
  outcome_is ask.No h = inl refl
  outcome_is ask.Maybe h = preempted_by_any h.0.task h.0.runs h.0.was (caller r.processor) refl
  outcome_is ask.Left h = left_by h.0 (best app r) refl
  outcome_is ask.Free h = free_by h.0 h.1 (best app r) refl

  -- who is current after the effect was so before
  still_current : (a : Ask) → HasAsked app s r a → (x : ℕ) → is_current r x ≡ true → is_current s x ≡ true
  still_current ask.No (inl e) x now = ap (λ (o : Option TaskNo). is_that_task o x) (sym e) ∙ now
  still_current ask.No (inr h) x now = absurd (false≢true (sym (ap (λ (p : Processor). is_that_task (task_of p) x) h.0) ∙ now))
  still_current ask.Maybe h x now = ap (λ (o : Option TaskNo). is_that_task o x) (h.0.was ∙ sym (ap task_of h.0.runs)) ∙ now
  still_current ask.Left h x now = absurd (false≢true (sym (ap (λ (p : Processor). is_that_task (task_of p) x) h.0.idle) ∙ now))
  still_current ask.Free h x now = absurd (false≢true (sym (ap (λ (p : Processor). is_that_task (task_of p) x) h.0) ∙ now))

pub kept_processor : (app : App) (r : State) (p : Processor) → (kept_by app r p).processor ≡ r.processor
kept_processor app r processor.Halted = refl
kept_processor app r processor.Idle = refl
kept_processor app r (processor.Running t) = refl
kept_processor app r (processor.Interrupted k over) = refl

module _ (app : App) (r : State) where
  -- a dispatch changes no other task than the one that gets the processor
  pub given_other : (x : TaskNo) (o : Option TaskNo) (u : ℕ) → u ≢ x.0 → task_state (with_processor (put_inside app (out_of_line (first_in_line r o) (Some x)) (Some x)) (processor.Running x)) u ≡ task_state r u
  given_other x None u other = get_or-set_other r.tasks x.0 u _ suspended other
  given_other x (Some c) u other = get_or-set_other r.tasks x.0 u _ suspended other

  emptied_same : (o : Option TaskNo) (u : ℕ) → task_state (with_processor (put_inside app (out_of_line (first_in_line r o) None) None) processor.Idle) u ≡ task_state r u
  emptied_same None u = refl
  emptied_same (Some c) u = refl

  kept_other : (p : Processor) (u : ℕ) → is_that_task (task_of p) u ≡ false → task_state (kept_by app r p) u ≡ task_state r u
  kept_other processor.Halted u free = refl
  kept_other processor.Idle u free = refl
  kept_other (processor.Running c) u free = get_or-set_other r.tasks c.0 u _ suspended (λ same. eqb-false c.0 u free (sym same))
  kept_other (processor.Interrupted k over) u free = refl

-- one instruction
module _ (app : App) (s : State) (w : Well app s) (active : IsActive s.processor) (choice : Bool) where
  -- after the effect, and after the outcome
  abbrev pub effected : State
  effected = (effect app s choice).state

  abbrev pub next : State
  next = (instruction app s choice).state

  pub asked : HasAsked app s effected (effect app s choice).ask
  asked = effect_asks app s w active choice

  pub outcome : IsOutcome app s effected next
  unfolding instruction
  outcome = outcome_is app s effected (effect app s choice).ask asked

  only_by : (a : Ask) → HasAsked app s effected a → reschedules (caller s.processor) (kind_at app s) ≡ false → task_of (settled app effected (outcome_by app effected a)).processor ≡ task_of s.processor
  only_by ask.No (inl e) off = ap task_of (kept_processor app effected effected.processor) ∙ e
  only_by ask.No (inr h) off = absurd (false≢true (sym off ∙ h.1))
  only_by ask.Maybe h off = absurd (false≢true (sym off ∙ h.1))
  only_by ask.Left h off = absurd (false≢true (sym off ∙ h.1))
  only_by ask.Free h off = absurd (false≢true (sym off ∙ h.2))

  -- another task becomes current only at a point of rescheduling
  pub only_at_points : reschedules (caller s.processor) (kind_at app s) ≡ false → task_of next.processor ≡ task_of s.processor
  unfolding instruction
  only_at_points off = only_by (effect app s choice).ask asked off

  -- another task than the current one rests until it gets the processor
  pub rests : (u : ℕ) → is_current s u ≡ false → IsResting app u (task_state s u) (task_state effected u)
  rests u free = effect_becomes app (IsResting app) (rests_by_services app) s (task_no u)
      (λ e. false≢true (sym free ∙ ap (λ (p : Processor). is_that_task (task_of p) u) e ∙ eq-eqb u u refl)) choice w active

  -- who is current after the effect was so before
  pub was_current : (x : ℕ) → is_current effected x ≡ true → is_current s x ≡ true
  was_current x now = still_current app s effected (effect app s choice).ask asked x now

  pub kept_current : (x : ℕ) → is_current (kept app effected) x ≡ true → is_current s x ≡ true
  kept_current x now = still_current app s effected (effect app s choice).ask asked x
      (sym (ap (λ (p : Processor). is_that_task (task_of p) x) (kept_processor app effected effected.processor)) ∙ now)

  unmoved_by : (n : State) → IsOutcome app s effected n → (u : ℕ) → is_current n u ≡ false → task_state n u ≡ task_state effected u
  unmoved_by n (inl is) u free =
      let r = effected in
      let beside : is_current r u ≡ false = ap (λ (p : Processor). is_that_task (task_of p) u) (sym (kept_processor app r r.processor)) ∙ subst (λ (m : State). is_current m u ≡ false) is free in
      ap (λ (m : State). task_state m u) is ∙ kept_other app r r.processor u beside
  unmoved_by n (inr (inl g)) u free =
      let other : u ≢ g.task.0 = λ same. eqb-false g.task.0 u (subst (λ (m : State). is_current m u ≡ false) g.is free) (sym same) in
      ap (λ (m : State). task_state m u) g.is ∙ given_other app effected g.task (task_of effected.processor) u other
  unmoved_by n (inr (inr h)) u free = ap (λ (m : State). task_state m u) h.is ∙ emptied_same app effected (task_of effected.processor) u

  pub unmoved : (u : ℕ) → is_current next u ≡ false → task_state next u ≡ task_state effected u
  unmoved = unmoved_by next outcome

  pub as_high : (u : ℕ) → is_current next u ≡ false → current_priority app next u ≡ current_priority app effected u
  as_high u free = ap (λ (z : TaskState). highest app (base_priority app u) (occupied app u z)) (unmoved u free)

  -- who gets the processor
  pub record Gets (x : ℕ) : Type 0 where
    pub given : IsGiven app s effected next
    pub is : given.task.0 ≡ x

  gets_by : (x : ℕ) → is_current s x ≡ false → is_current next x ≡ true → IsOutcome app s effected next → Gets x
  gets_by x free now (inl is) = absurd (false≢true (sym free ∙ kept_current x (subst (λ (m : State). is_current m x ≡ true) is now)))
  gets_by x free now (inr (inl g)) = record { given = g; is = eqb-true g.task.0 x (subst (λ (m : State). is_current m x ≡ true) g.is now) }
  gets_by x free now (inr (inr h)) = absurd (false≢true (subst (λ (m : State). is_current m x ≡ true) h.is now))

  pub gets : (x : ℕ) → is_current s x ≡ false → is_current next x ≡ true → Gets x
  gets x free now = gets_by x free now outcome

  pub alone : (m : State) (x u : ℕ) → is_current m x ≡ true → u ≢ x → is_current m u ≡ false
  alone m x u now other = by (task_of m.processor) now where
    by : (o : Option TaskNo) → is_that_task o x ≡ true → is_that_task o u ≡ false
    by None f = refl
    by (Some c) f = ne_eqb c.0 u (λ same. other (sym same ∙ eqb-true c.0 x f))

  -- it had a greatest current priority of those that are ready
  pub greatest : (x u : ℕ) → is_current s x ≡ false → is_current next x ≡ true → u ≢ x → is_live (task_state next u) ≡ true → current_priority app next u ≤ current_priority app s x
  greatest x u free now other live =
      let g = gets x free now in
      let apart = alone next x u now other in
      let top = subst (λ (v : ℕ). IsBest app effected v) g.is (best_is app effected g.given.task g.given.found) in
      let was_live : is_live (task_state effected u) ≡ true = subst (λ (z : TaskState). is_live z ≡ true) (unmoved u apart) live in
      elim (top.others u was_live other) [
        | inl low ↦ omega (arith, low, as_high u apart, (rests x free).priority)
        | inr tie ↦ omega (arith, tie.0, as_high u apart, (rests x free).priority)
      ]
