-- A task that goes ahead of another one does so until it gets the processor.
use Rattle.std.proofs.Common.{◌≡◌, ◌≢◌, ℕ, ◌+◌, ◌<◌, ◌≤◌, Bool, true, false, cond, List, [], ◌∷◌, refl, sym, subst, ap, ◌∙◌, arith, nat_eq, Some, None, inl, inr}
use Rattle.std.proofs.lemmas.Bool.{cases_Bool, eqb-false, eqb-true, eq-eqb, false≢true, ne_eqb}
use Rattle.std.specs.{Prelude.{IfSome, slice_index_or}, declared.option.Option.{Option}}
use Rattle.osek_values.specs.{declared.{event.Event.{Event}, numbers.{TaskNo.{TaskNo}}}, Line.{place_in_line}}
use Rattle.osek_standard.specs.declared.{app.App.{App}, task_state.{TaskState.{TaskState}, Activity.{Activity, TheVariants.{Suspended, Live, Waiting}}}, state.{State.{State}, Processor.{Processor}}}
use Rattle.osek_standard.specs.{TaskStates.{is_live, is_live_activity, suspended}, States.{is_that_task, task_of, task_state}, Internal.{kept_by}, Kernel.{step}, Line.{first_in_line, places, places_due, turn}}
use Rattle.osek_standard.specs.{Priority.{IsBest, base_priority, current_priority}, Well.{HasProcessor, IsActive, Well}, Dispatch.{dispatched}}
use Rattle.osek_standard.specs.declared.state.Processor.TheVariants as processor
use Rattle.osek_standard.proofs.{Callers.{routine_level_of, task_level_of}, PlaceLaws.{places_in}, PriorityLaws.{best_is}}
use Rattle.kernel_guarantees.specs.{Instructions.{is_end}, Readiness.{GoesAhead, IsReady, IsReadyAlong}, Reached.{IsReached, after}, Scheduling.{IsPreemption, is_shutdown, kind_at}, Underway.{is_begun, is_current, is_underway}}
use Rattle.kernel_guarantees.proofs.LineChanges.{LineBecomes, effect_line}
use Rattle.kernel_guarantees.proofs.{Delays.{fresh_base, ready_now}, Lines.{order_appended, order_behind, order_without, place_behind, place_first, place_past, place_within}}
use Rattle.kernel_guarantees.proofs.{Outcomes.{IsOutcome, as_high, effected, kept_current, kept_processor, next, outcome, rests, unmoved, was_current}, Preempting.{preempts, that_task, waits_as_high}, Reaching.{reached_is_well, step_is_reached}}
use Rattle.kernel_guarantees.proofs.{StackedDeeds.{has_place}, StackedSteps.{not_live}, Stepping.{IsQuiet, step_goes_by}}

-- t stands before u in a line
abbrev pub Before : List TaskNo → ℕ → ℕ → Type 0
Before line t u = place_in_line line t < place_in_line line u

pub turn_of : (s : State) (t : ℕ) → is_current s t ≡ false → turn s t ≡ 1 + place_in_line s.line t
turn_of s t free = ap (λ (b : Bool). cond b 0 (1 + place_in_line s.line t)) free

-- a task that hasn't the processor is another one than who has it
current_other : (s : State) (c : TaskNo) (t : ℕ) → task_of s.processor ≡ Some c → is_current s t ≡ false → t ≢ c.0
current_other s c t now free same = false≢true (sym free ∙ ap (λ (o : Option TaskNo). is_that_task o t) now ∙ eq-eqb c.0 t (sym same))

-- where neither has the processor, the effect of an instruction leaves the order of two tasks; u may have it until ShutdownOS
module _ (app : App) (s : State) (t u : ℕ) (free : is_current s t ≡ false) (beside : is_shutdown (kind_at app s) ≡ true → is_current s u ≡ false) (some : 0 < places_in s.line t) (order : Before s.line t u) where
  becomes_before : (r : State) → LineBecomes app s r → Before r.line t u
  becomes_before r (inl same) = subst (λ (line : List TaskNo). Before line t u) (sym same) order
  becomes_before r (inr (inl last)) = subst (λ (line : List TaskNo). Before line t u) (sym last.line) (order_appended last.task s.line t u some order)
  becomes_before r (inr (inr first)) = subst (λ (line : List TaskNo). Before line t u) (sym first.line)
      (order_behind first.task s.line t u (current_other s first.task t first.was free) (current_other s first.task u first.was (beside first.off)) order)

  pub effect_orders : (w : Well app s) (active : IsActive s.processor) (choice : Bool) → Before (effected app s w active choice).line t u
  effect_orders w active choice = becomes_before (effected app s w active choice) (effect_line app s w active choice)

pub kept_line : (app : App) (r : State) (p : Processor) → (kept_by app r p).line ≡ r.line
kept_line app r processor.Halted = refl
kept_line app r processor.Idle = refl
kept_line app r (processor.Running c) = refl
kept_line app r (processor.Interrupted k over) = refl

pub first_before : (r : State) (t u : ℕ) (o : Option TaskNo) → task_of r.processor ≡ o → is_current r t ≡ false → is_current r u ≡ false → Before r.line t u → Before (first_in_line r o).line t u
first_before r t u None e free beside order = order
first_before r t u (Some c) e free beside order = order_behind c r.line t u (current_other r c t e free) (current_other r c u e beside) order

-- one instruction
module _ (app : App) (s : State) (w : Well app s) (active : IsActive s.processor) (choice : Bool) where
  abbrev r : State
  r = effected app s w active choice

  abbrev n : State
  n = next app s w active choice

  -- who is behind after the effect is so after the outcome
  module _ (t u : ℕ) (order : Before r.line t u) (free : is_current r t ≡ false) (beside : is_current r u ≡ false) (live : is_live (task_state r t) ≡ true) (fresh : is_underway app r u ≡ false)
      (under : base_priority app u ≤ current_priority app r t) where
    -- u isn't the best one while t is ready
    not_best : IsBest app r u → t ≢ u → ⊥
    not_best top other = elim (top.others t live other) [
      | inl low ↦ omega (arith, low, under, fresh_base app r u fresh)
      | inr tie ↦ omega (arith, tie.1, order, turn_of r t free, turn_of r u beside)
    ]

    apart : t ≢ u
    apart same = omega (arith, order, ap (λ (v : ℕ). place_in_line r.line v) same)

    misses : (m : State) → IsOutcome app s r m → is_current m u ≡ false
    misses m (inl is) = ap (λ (a : State). is_current a u) is ∙ ap (λ (p : Processor). is_that_task (task_of p) u) (kept_processor app r r.processor) ∙ beside
    misses m (inr (inl g)) = ap (λ (a : State). is_current a u) g.is ∙ elim (cases_Bool (nat_eq g.task.0 u)) [
      | inl same ↦ absurd (not_best (subst (λ (v : ℕ). IsBest app r v) (eqb-true g.task.0 u same) (best_is app r g.task g.found)) apart)
      | inr other ↦ other
    ]
    misses m (inr (inr h)) = ap (λ (a : State). is_current a u) h.is

    stays_before : (m : State) → IsOutcome app s r m → is_current m t ≡ false → Before m.line t u
    stays_before m (inl is) ready = subst (λ (line : List TaskNo). Before line t u) (sym (ap (λ (a : State). a.line) is ∙ kept_line app r r.processor)) order
    stays_before m (inr (inl g)) ready =
        let other : (v : ℕ) → is_current m v ≡ false → v ≢ g.task.0 = λ v f same. eqb-false g.task.0 v (sym (ap (λ (a : State). is_current a v) g.is) ∙ f) (sym same) in
        subst (λ (line : List TaskNo). Before line t u) (sym (ap (λ (a : State). a.line) g.is))
        (order_without g.task.0 t u (first_in_line r (task_of r.processor)).line (other t ready) (other u (misses m (inr (inl g)))) (first_before r t u (task_of r.processor) refl free beside order))
    stays_before m (inr (inr h)) ready = absurd (false≢true (sym (h.none t) ∙ live))

    pub ahead_after : IsReady n t → GoesAhead app n t u
    ahead_after ready =
        let missed = misses n (outcome app s w active choice) in
        let placed = stays_before n (outcome app s w active choice) ready.1 in
        record {
          ready = ready;
          beside = missed;
          fresh = ap (is_begun app u) (unmoved app s w active choice u missed) ∙ fresh;
          under = omega (arith, under, as_high app s w active choice t ready.1);
          sooner = omega (arith, placed, turn_of n t ready.1, turn_of n u missed);
        }

  pub free_after : (v : ℕ) → is_current s v ≡ false → is_current r v ≡ false
  free_after v free = elim (cases_Bool (is_current r v)) [
    | inl now ↦ absurd (false≢true (sym free ∙ was_current app s w active choice v now))
    | inr f ↦ f
  ]

  before_by : (t u : ℕ) → GoesAhead app s t u → Before s.line t u
  before_by t u h = omega (arith, h.sooner, turn_of s t h.ready.1, turn_of s u h.beside)

  pub ahead_goes_on : (t u : ℕ) → GoesAhead app s t u → IsReady n t → GoesAhead app n t u
  ahead_goes_on t u h ready =
      let some = has_place app s w t h.ready.0 h.ready.1 in
      let order = effect_orders app s t u h.ready.1 (λ _. h.beside) some (before_by t u h) w active choice in
      let t_rests = rests app s w active choice t h.ready.1 in
      ahead_after t u order (free_after t h.ready.1) (free_after u h.beside) (t_rests.live h.ready.0) ((rests app s w active choice u h.beside).begun h.fresh)
      (omega (arith, h.under, t_rests.priority)) ready

  -- a preempted task goes first in the line
  first_by : (c x : TaskNo) (u : ℕ) → task_of s.processor ≡ Some c → is_end (kind_at app s) ≡ false → task_of n.processor ≡ Some x → IsReady n c.0 → is_current n u ≡ false → u ≢ c.0
      → (m : State) → n ≡ m → IsOutcome app s r m → Before n.line c.0 u
  first_by c x u was goes_on now ready beside other m same (inl is) =
      absurd (let x_was : is_current s x.0 ≡ true = kept_current app s w active choice x.0 (ap (λ (a : State). is_current a x.0) (sym (same ∙ is)) ∙ that_task (task_of n.processor) x now) in
      let is_c : c.0 ≡ x.0 = eqb-true c.0 x.0 (sym (ap (λ (o : Option TaskNo). is_that_task o x.0) was) ∙ x_was) in
      false≢true (sym ready.1 ∙ ap (λ (o : Option TaskNo). is_that_task o c.0) now ∙ eq-eqb x.0 c.0 (sym is_c)))
  first_by c x u was goes_on now ready beside other m same (inr (inl g)) =
      let is : n ≡ dispatched app r (Some g.task) = same ∙ g.is in
      let differs : (v : ℕ) → is_current n v ≡ false → v ≢ g.task.0 = λ v f e. eqb-false g.task.0 v (sym (ap (λ (a : State). is_current a v) is) ∙ f) (sym e) in
      elim (g.why c was) [
        | inl up ↦ (let ahead : Before (c ∷ r.line) c.0 u = omega (arith, place_first c r.line, place_behind c r.line u other) in
            let order : Before (first_in_line r (task_of r.processor)).line c.0 u = subst (λ (o : Option TaskNo). Before (first_in_line r o).line c.0 u) (sym (ap task_of up.0)) ahead in
            subst (λ (line : List TaskNo). Before line c.0 u) (sym (ap (λ (a : State). a.line) is))
            (order_without g.task.0 c.0 u (first_in_line r (task_of r.processor)).line (differs c.0 ready.1) (differs u beside) order))
        | inr gone ↦ absurd (elim gone [
          | inl ends ↦ false≢true (sym goes_on ∙ ends.0)
          | inr dead ↦ false≢true (sym dead ∙ ap is_live (sym (unmoved app s w active choice c.0 ready.1)) ∙ ready.0)
        ])
      ]
  first_by c x u was goes_on now ready beside other m same (inr (inr h)) = absurd (cc (ap (λ (a : State). task_of a.processor) (same ∙ h.is), now))

  pub goes_first : (c x : TaskNo) (u : ℕ) → task_of s.processor ≡ Some c → is_end (kind_at app s) ≡ false → task_of n.processor ≡ Some x → IsReady n c.0 → is_current n u ≡ false → u ≢ c.0 → Before n.line c.0 u
  goes_first c x u was goes_on now ready beside other = first_by c x u was goes_on now ready beside other n refl (outcome app s w active choice)

-- a task that runs or is interrupted is Live
current_live : (app : App) (s : State) → Well app s → (u : ℕ) → is_current s u ≡ true → is_live (task_state s u) ≡ true
current_live app s w u now = by s.processor refl where
  same : (c : TaskNo) → s.processor ≡ processor.Running c → c.0 ≡ u
  same c e = eqb-true c.0 u (sym (ap (λ (p : Processor). is_that_task (task_of p) u) e) ∙ now)

  over_live : (o : Option TaskNo) → IfSome o (HasProcessor app s) → is_that_task o u ≡ true → is_live (task_state s u) ≡ true
  over_live None h e = absurd (false≢true e)
  over_live (Some c) h e = subst (λ (v : ℕ). is_live (task_state s v) ≡ true) (eqb-true c.0 u e) h.1

  by : (p : Processor) → s.processor ≡ p → is_live (task_state s u) ≡ true
  by processor.Halted e = absurd (false≢true (sym (ap (λ (p : Processor). is_that_task (task_of p) u) e) ∙ now))
  by processor.Idle e = absurd (false≢true (sym (ap (λ (p : Processor). is_that_task (task_of p) u) e) ∙ now))
  by (processor.Running c) e = subst (λ (v : ℕ). is_live (task_state s v) ≡ true) (same c e) (task_level_of app s c w e).running.1
  by (processor.Interrupted k over) e = over_live over (routine_level_of app s k over w e).over (sym (ap (λ (p : Processor). is_that_task (task_of p) u) e) ∙ now)

module _ (app : App) (s : State) (reached : IsReached app s) where
  well : Well app s
  well = reached_is_well app s reached

  -- a task that isn't Live has no place in the line
  pub no_place : (u : ℕ) → is_live (task_state s u) ≡ false → places s u ≡ 0
  no_place u dead = well.line u ∙ by (task_state s u).activity refl where
    by : (a : Activity) → (task_state s u).activity ≡ a → places_due (task_of s.processor) u (task_state s u).activity ≡ 0
    by Suspended e = ap (places_due (task_of s.processor) u) e
    by (Live x) e = absurd (false≢true (sym dead ∙ ap is_live_activity e))
    by (Waiting b) e = ap (places_due (task_of s.processor) u) e

  -- a ready task goes ahead of each that becomes ready later
  pub goes_ahead : (t u : ℕ) → IsReady s t → is_live (task_state s u) ≡ false → base_priority app u ≤ current_priority app s t → GoesAhead app s t u
  goes_ahead t u ready dead under =
      let beside : is_current s u ≡ false = elim (cases_Bool (is_current s u)) [
        | inl now ↦ absurd (false≢true (sym dead ∙ current_live app s well u now))
        | inr f ↦ f
      ] in
      let within = place_within s.line t (has_place app s well t ready.0 ready.1) in
      let past = place_past s.line u (no_place u dead) in
      record {
        ready = ready;
        beside = beside;
        fresh = not_live app u (task_state s u) dead;
        under = under;
        sooner = omega (arith, within, past, turn_of s t ready.1, turn_of s u beside);
      }

  module _ (e : Event) where
    abbrev after_step : State
    after_step = (step app s e).state

    quiet_ahead : (t u : ℕ) → GoesAhead app s t u → IsReady after_step t → IsQuiet app s e after_step → GoesAhead app after_step t u
    quiet_ahead t u h ready quiet =
        let missed : is_current after_step u ≡ false = ap (λ (o : Option TaskNo). is_that_task o u) quiet.current ∙ h.beside in
        let places : (v : ℕ) → place_in_line after_step.line v ≡ place_in_line s.line v = λ v. ap (λ (line : List TaskNo). place_in_line line v) quiet.line in
        record {
          ready = ready;
          beside = missed;
          fresh = ap (λ (tasks : List TaskState). is_begun app u (slice_index_or tasks u suspended)) quiet.tasks ∙ h.fresh;
          under = omega (arith, h.under, waits_as_high app s reached e t h.ready.1 ready.1);
          sooner = omega (arith, h.sooner, places t, places u, turn_of s t h.ready.1, turn_of s u h.beside, turn_of after_step t ready.1, turn_of after_step u missed);
        }

    step_ahead : (t u : ℕ) → GoesAhead app s t u → IsReady after_step t → GoesAhead app after_step t u
    step_ahead t u h ready = elim (step_goes_by app s e) [
      | inl quiet ↦ quiet_ahead t u h ready quiet
      | inr i ↦ subst (λ (m : State). GoesAhead app m t u) (sym i.is) (ahead_goes_on app s well i.does.active i.does.choice t u h (subst (λ (m : State). IsReady m t) i.is ready))
    ]

    -- a preempted task goes ahead of each of its priority that hasn't begun
    pub preempted_ahead : (c x : TaskNo) (u : ℕ) → IsPreemption app s e c x → u ≢ c.0 → is_underway app after_step u ≡ false → base_priority app u ≤ current_priority app after_step c.0 → GoesAhead app after_step c.0 u
    preempted_ahead c x u p other fresh under =
        let high = preempts app s reached e c x p in
        let left : is_current after_step c.0 ≡ false = ap (λ (o : Option TaskNo). is_that_task o c.0) p.gets ∙ ne_eqb x.0 c.0 p.other in
        let beside : is_current after_step u ≡ false = ap (λ (o : Option TaskNo). is_that_task o u) p.gets
        ∙ ne_eqb x.0 u (λ same. omega (arith, high, under, ap (λ (v : ℕ). base_priority app v) same)) in
        let order : Before after_step.line c.0 u = elim (step_goes_by app s e) [
          | inl quiet ↦ absurd (false≢true (sym left ∙ ap (λ (o : Option TaskNo). is_that_task o c.0) (quiet.current ∙ p.had) ∙ eq-eqb c.0 c.0 refl))
          | inr i ↦ subst (λ (m : State). Before m.line c.0 u) (sym i.is)
              (goes_first app s well i.does.active i.does.choice c x u p.had p.goes_on (subst (λ (m : State). task_of m.processor ≡ Some x) i.is p.gets)
              (subst (λ (m : State). IsReady m c.0) i.is (p.live, left)) (subst (λ (m : State). is_current m u ≡ false) i.is beside) other)
        ] in
        record {
          ready = (p.live, left);
          beside = beside;
          fresh = fresh;
          under = under;
          sooner = omega (arith, order, turn_of after_step c.0 left, turn_of after_step u beside);
        }

-- until it gets the processor
pub ahead_along : (app : App) (s : State) (es : List Event) (t u : ℕ) → IsReached app s → GoesAhead app s t u → IsReadyAlong app t s es → GoesAhead app (after app s es) t u
ahead_along app s [] t u reached h ready = h
ahead_along app s (e ∷ es) t u reached h ready =
    let n = (step app s e).state in
    ahead_along app n es t u (step_is_reached app s e reached) (step_ahead app s reached e t u h (ready_now app t n es ready.1)) ready.1
