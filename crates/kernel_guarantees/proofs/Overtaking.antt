-- While a task is ready, no activation of a task of no higher priority overtakes it.
use Rattle.std.proofs.Common.{◌≡◌, ◌≢◌, ℕ, ◌+◌, ◌<◌, ◌≤◌, Bool, true, false, ◌&&◌, List, [], ◌∷◌, length, refl, sym, subst, ap, ◌∙◌, arith, nat_eq, inl, inr, Some, None, length-append}
use Rattle.std.proofs.lemmas.Bool.{cases_Bool, eq-eqb, eqb-false, eqb-true, false≢true}
use Rattle.std.specs.declared.option.Option.{Option}
use Rattle.osek_values.specs.{declared.{event.Event.{Event}, numbers.{TaskNo.{TaskNo}}, status.Status.{Status}}, Line.{place_in_line, without_first}}
use Rattle.osek_standard.specs.declared.{app.App.{App}, block.Kind.{Kind}, state.{State.{State}, Processor.{Processor}}}
use Rattle.osek_standard.specs.{TaskStates.{is_live}, States.{caller, is_that_task, task_of, task_state}, Line.{first_in_line}, Priority.{IsBest, base_priority, current_priority}}
use Rattle.osek_standard.specs.{Effects.{effect}, Kernel.{step}, Outcomes.{shows}, Well.{IsActive, Well}}
use Rattle.osek_standard.specs.declared.state.Processor.TheVariants as processor
use Rattle.osek_standard.proofs.{PlaceLaws.{places_in}, PriorityLaws.{best_is}}
use Rattle.kernel_guarantees.specs.{Activations.{ends_along, ends_by, ends_in, of_instruction, one_if}, Instructions.{is_end}, Readiness.{IsReady, IsReadyAlong, earlier, places_before}, Reached.{IsReached, after}}
use Rattle.kernel_guarantees.specs.{Scheduling.{is_shutdown, kind_at}, Underway.{is_current, is_underway}}
use Rattle.kernel_guarantees.proofs.{AccountedSteps.{nothing_did}, EndingEffects.{effect_ended, end_stays_on, ends_is_end, one_true}, Delays.{fresh_base, ready_now}, LineChanges.{LineBecomes, effect_line}}
use Rattle.kernel_guarantees.proofs.{GoingAhead.{Before, effect_orders, first_before, free_after, kept_line, turn_of}, Leaving.{ends_once}, Lines.{place_behind, place_kept, place_within}}
use Rattle.kernel_guarantees.proofs.Outcomes.{IsGiven, IsOutcome, effected, kept_processor, next, outcome, rests, was_current}
use Rattle.kernel_guarantees.proofs.{PlacesBefore.{before_appended, before_behind, before_without_itself, before_without_other}, Preempting.{waits_as_high}, Reaching.{reached_is_well, step_is_reached}, Shielding.{reached_is_shielded}, Stacked.{own, under_is_live}}
use Rattle.kernel_guarantees.proofs.{StackedDeeds.{has_place}, StackedSteps.{not_live}, Stepping.{step_goes_by}}

and_second : (b c : Bool) → (b && c) ≡ true → c ≡ true
and_second true c e = e
and_second false c e = absurd (false≢true e)

-- who ends has the processor
ends_current : (p : Processor) (k : Kind) (u : ℕ) (x : Option Status) → ends_by (caller p) k u x ≡ 1 → is_that_task (task_of p) u ≡ true
ends_current processor.Halted k u x one = absurd (omega (arith, one))
ends_current processor.Idle k u x one = absurd (omega (arith, one))
ends_current (processor.Running c) k u x one = and_second _ (nat_eq c.0 u) (and_second (is_end k) _ (one_true _ one))
ends_current (processor.Interrupted j over) k u x one = absurd (omega (arith, one))

-- one instruction
module _ (app : App) (s : State) (reached : IsReached app s) (active : IsActive s.processor) (choice : Bool) (t u : ℕ) (ready : IsReady s t) (ne : t ≢ u) (under : base_priority app u ≤ current_priority app s t) where
  well : Well app s
  well = reached_is_well app s reached

  abbrev r : State
  r = effected app s well active choice

  abbrev n : State
  n = next app s well active choice

  some : 0 < places_in s.line t
  some = has_place app s well t ready.0 ready.1

  t_free : is_current r t ≡ false
  t_free = free_after app s well active choice t ready.1

  t_live : is_live (task_state r t) ≡ true
  t_live = (rests app s well active choice t ready.1).live ready.0

  t_high : current_priority app r t ≡ current_priority app s t
  t_high = (rests app s well active choice t ready.1).priority

  becomes : LineBecomes app s r
  becomes = effect_line app s well active choice

  abbrev ends : ℕ
  ends = ends_by (caller s.processor) (kind_at app s) u (effect app s choice).notes.status

  count_true : (m : State) → is_current m u ≡ true → one_if (is_current m u) ≡ 1
  count_true m e = ap one_if e

  count_false : (m : State) → is_current m u ≡ false → one_if (is_current m u) ≡ 0
  count_false m e = ap one_if e

  -- who has the processor after the effect had it before
  no_more : one_if (is_current r u) ≤ one_if (is_current s u)
  no_more = elim (cases_Bool (is_current r u)) [
    | inl now ↦ omega (arith, count_true r now, count_true s (was_current app s well active choice u now))
    | inr free ↦ omega (arith, count_false r free)
  ]

  -- without ShutdownOS as many stand before t
  same_before : is_shutdown (kind_at app s) ≡ false → places_before r.line t u ≡ places_before s.line t u
  same_before on = by becomes where
    by : LineBecomes app s r → places_before r.line t u ≡ places_before s.line t u
    by (inl same) = ap (λ (line : List TaskNo). places_before line t u) same
    by (inr (inl last)) = ap (λ (line : List TaskNo). places_before line t u) last.line ∙ before_appended t u last.task s.line some
    by (inr (inr first)) = absurd (false≢true (sym on ∙ first.off))

  -- the effect leaves no more of the earlier ones, and each end is one
  ended_bound : ends ≡ 1 → earlier r t u + ends ≤ earlier s t u
  ended_bound one =
      let over = end_stays_on (kind_at app s) (ends_is_end app u s well active choice (caller s.processor) (kind_at app s) (effect app s choice).notes.status one) in
      let gone = effect_ended app u s well active choice one in
      let free : is_current r u ≡ false = ap (λ (p : Processor). is_that_task (task_of p) u) gone.0 in
      let now : is_current s u ≡ true = ends_current s.processor (kind_at app s) u (effect app s choice).notes.status one in
      omega (arith, one, same_before over, count_false r free, count_true s now)

  quiet_bound : ends ≡ 0 → earlier r t u + ends ≤ earlier s t u
  quiet_bound none = by becomes where
    by : LineBecomes app s r → earlier r t u + ends ≤ earlier s t u
    by (inl same) = omega (arith, none, ap (λ (line : List TaskNo). places_before line t u) same, no_more)
    by (inr (inl last)) = omega (arith, none, ap (λ (line : List TaskNo). places_before line t u) last.line, before_appended t u last.task s.line some, no_more)
    by (inr (inr first)) =
        let other : t ≢ first.task.0 = λ e. false≢true (sym ready.1 ∙ ap (λ (o : Option TaskNo). is_that_task o t) first.was ∙ eq-eqb first.task.0 t (sym e)) in
        let now : one_if (is_current s u) ≡ one_if (nat_eq first.task.0 u) = ap (λ (o : Option TaskNo). one_if (is_that_task o u)) first.was in
        let off : is_current r u ≡ false = ap (λ (p : Processor). is_that_task (task_of p) u) first.halted in
        omega (arith, none, ap (λ (line : List TaskNo). places_before line t u) first.line, before_behind first.task s.line t u other, now, count_false r off)

  effect_bound : earlier r t u + ends ≤ earlier s t u
  effect_bound = elim (cases_Bool (nat_eq ends 0)) [
    | inl e ↦ quiet_bound (eqb-true ends 0 e)
    | inr e ↦ ended_bound (let some_end = eqb-false ends 0 e in omega (arith, some_end, ends_once (caller s.processor) (kind_at app s) u (effect app s choice).notes.status))
  ]

  -- who has the processor goes first
  first_counts : (o : Option TaskNo) → is_that_task o t ≡ false → places_before (first_in_line r o).line t u ≡ places_before r.line t u + one_if (is_that_task o u)
  first_counts None free = omega arith
  first_counts (Some c) free = omega (arith, before_behind c r.line t u (λ e. eqb-false c.0 t free (sym e)))

  -- a task that gets the processor before t stands before it
  module _ (top : IsBest app r u) (beside : is_current r u ≡ false) where
    -- it was ready, or it hasn't begun
    was_ready : is_underway app r u ≡ true → (g : IsGiven app s r n) → g.task.0 ≡ u → is_current s u ≡ false
    was_ready begun g same = by (task_of s.processor) refl where
      still : (c : TaskNo) → task_of s.processor ≡ Some c → c.0 ≡ u → ⊥
      still c was is = elim (g.why c was) [
        | inl up ↦ false≢true (sym beside ∙ ap (λ (p : Processor). is_that_task (task_of p) u) up.0 ∙ eq-eqb c.0 u is)
        | inr gone ↦ elim gone [
          | inl end ↦ false≢true (sym end.1 ∙ ap (is_underway app r) is ∙ begun)
          | inr dead ↦ false≢true (sym (not_live app c.0 (task_state r c.0) dead) ∙ ap (is_underway app r) is ∙ begun)
        ]
      ]

      by : (o : Option TaskNo) → task_of s.processor ≡ o → is_that_task o u ≡ false
      by None e = refl
      by (Some c) e = elim (cases_Bool (nat_eq c.0 u)) [ inl is ↦ absurd (still c e (eqb-true c.0 u is)) | inr f ↦ f ]

    stood_before : (g : IsGiven app s r n) → g.task.0 ≡ u → Before r.line u t
    stood_before g same = elim (top.others t t_live ne) [
      | inr tie ↦ omega (arith, tie.1, turn_of r t t_free, turn_of r u beside)
      | inl low ↦ elim (cases_Bool (is_underway app r u)) [
        | inr fresh ↦ absurd (omega (arith, low, under, t_high, fresh_base app r u fresh))
        | inl begun ↦ (let waited = was_ready begun g same in
            let u_rests = rests app s well active choice u waited in
            let was_under : is_underway app s u ≡ true = elim (cases_Bool (is_underway app s u)) [ inl e ↦ e | inr e ↦ absurd (false≢true (sym (u_rests.begun e) ∙ begun)) ] in
            elim (reached_is_shielded app s reached active t u ne was_under waited ready.0 ready.1) [
              | inl above ↦ absurd (omega (arith, low, above, u_rests.priority, t_high, own app s t))
              | inr order ↦ effect_orders app s u t waited (λ _. ready.1) (has_place app s well u (under_is_live app s u was_under) waited) order well active choice
            ])
      ]
    ]

  within : place_in_line r.line t < length r.line
  within = by becomes where
    inside : place_in_line s.line t < length s.line
    inside = place_within s.line t some

    by : LineBecomes app s r → place_in_line r.line t < length r.line
    by (inl same) = subst (λ (line : List TaskNo). place_in_line line t < length line) (sym same) inside
    by (inr (inl last)) = subst (λ (line : List TaskNo). place_in_line line t < length line) (sym last.line) (omega (arith, inside, place_kept last.task s.line t some, length-append s.line (last.task ∷ [])))
    by (inr (inr first)) =
        let other : t ≢ first.task.0 = λ e. false≢true (sym ready.1 ∙ ap (λ (o : Option TaskNo). is_that_task o t) first.was ∙ eq-eqb first.task.0 t (sym e)) in
        subst (λ (line : List TaskNo). place_in_line line t < length line) (sym first.line) (omega (arith, inside, place_behind first.task s.line t other))

  first_within : (o : Option TaskNo) → is_that_task o t ≡ false → place_in_line (first_in_line r o).line t < length (first_in_line r o).line
  first_within None free = within
  first_within (Some c) free = omega (arith, within, place_behind c r.line t (λ e. eqb-false c.0 t free (sym e)))

  -- the outcome leaves no more of them
  outcome_bound : (m : State) → IsOutcome app s r m → n ≡ m → is_current m t ≡ false → earlier m t u ≤ earlier r t u
  outcome_bound m (inl is) now free =
      let line : places_before m.line t u ≡ places_before r.line t u = ap (λ (x : State). places_before x.line t u) is ∙ ap (λ (l : List TaskNo). places_before l t u) (kept_line app r r.processor) in
      let same : one_if (is_current m u) ≡ one_if (is_current r u) = ap (λ (x : State). one_if (is_current x u)) is ∙ ap (λ (p : Processor). one_if (is_that_task (task_of p) u)) (kept_processor app r r.processor) in
      omega (arith, line, same)
  outcome_bound m (inr (inl g)) now free =
      let first : List TaskNo = (first_in_line r (task_of r.processor)).line in
      let gives : IsGiven app s r n = subst (IsGiven app s r) (sym now) g in
      let line : places_before m.line t u ≡ places_before (without_first first g.task.0) t u = ap (λ (x : State). places_before x.line t u) g.is in
      let count : one_if (is_current m u) ≡ one_if (nat_eq g.task.0 u) = ap (λ (x : State). one_if (is_current x u)) g.is in
      let apart : t ≢ g.task.0 = λ e. eqb-false g.task.0 t (sym (ap (λ (x : State). is_current x t) g.is) ∙ free) (sym e) in
      let all = first_counts (task_of r.processor) t_free in
      elim (cases_Bool (nat_eq g.task.0 u)) [
        | inr other ↦ omega (arith, line, count, ap one_if other, all, before_without_other t u g.task.0 first apart (λ e. eqb-false g.task.0 u other (sym e)))
        | inl is ↦ (let same : g.task.0 ≡ u = eqb-true g.task.0 u is in
            let top = subst (λ (v : ℕ). IsBest app r v) same (best_is app r g.task g.found) in
            let beside : is_current r u ≡ false = subst (λ (v : ℕ). is_current r v ≡ false) same g.beside in
            let order : Before first u t = first_before r u t (task_of r.processor) refl beside t_free (stood_before top beside gives (ap (λ (x : TaskNo). x.0) refl ∙ same)) in
            let inside : place_in_line first u < length first = omega (arith, order, first_within (task_of r.processor) t_free) in
            let less : places_before (without_first first g.task.0) t u + 1 ≡ places_before first t u = subst (λ (v : ℕ). places_before (without_first first v) t u + 1 ≡ places_before first t u) (sym same) (before_without_itself t u first ne inside order) in
            omega (arith, line, count, ap one_if is, all, less))
      ]
  outcome_bound m (inr (inr h)) now free = absurd (false≢true (sym (h.none t) ∙ t_live))

  instruction_bound : is_current n t ≡ false → earlier n t u + ends ≤ earlier s t u
  instruction_bound free = omega (arith, effect_bound, outcome_bound n (outcome app s well active choice) refl free)

module _ (app : App) (t u : ℕ) (ne : t ≢ u) where
  pub step_bound : (s : State) (e : Event) → IsReached app s → IsReady s t → IsReady (step app s e).state t → base_priority app u ≤ current_priority app s t → earlier (step app s e).state t u + ends_in app s e u ≤ earlier s t u
  step_bound s e reached ready still under = elim (step_goes_by app s e) [
    | inl quiet ↦ (let line = ap (λ (l : List TaskNo). places_before l t u) quiet.line in
        let count = ap (λ (o : Option TaskNo). one_if (is_that_task o u)) quiet.current in
        omega (arith, line, count, nothing_did (ends_by (caller s.processor) (kind_at app s) u) (shows app s e) quiet.shown))
    | inr i ↦ (let bound = instruction_bound app s reached i.does.active i.does.choice t u ready ne under (subst (λ (m : State). is_current m t ≡ false) i.is still.1) in
        let same = ap (λ (m : State). earlier m t u) i.is in
        let done = ap (of_instruction (ends_by (caller s.processor) (kind_at app s) u)) i.shown in
        omega (arith, bound, same, done))
  ]

  -- t stays as high as it is while it is ready
  pub bound_along : (s : State) (es : List Event) → IsReached app s → IsReadyAlong app t s es → base_priority app u ≤ current_priority app s t → earlier (after app s es) t u + ends_along app s es u ≤ earlier s t u
  bound_along s [] reached ready under = omega arith
  bound_along s (e ∷ es) reached ready under =
      let n = (step app s e).state in
      let still = ready_now app t n es ready.1 in
      let one = step_bound s e reached ready.0 still under in
      let rest = bound_along n es (step_is_reached app s e reached) ready.1 (omega (arith, under, waits_as_high app s reached e t ready.0.1 still.1)) in
      omega (arith, one, rest)

  pub none_gets : (s : State) (es : List Event) → IsReached app s → IsReadyAlong app t s es → base_priority app u ≤ current_priority app s t → earlier s t u ≡ 0 → is_current (after app s es) u ≡ false
  none_gets s es reached ready under bare = elim (cases_Bool (is_current (after app s es) u)) [
    | inr free ↦ free
    | inl now ↦ absurd (let bound = bound_along s es reached ready under in let one : one_if (is_current (after app s es) u) ≡ 1 = ap one_if now in omega (arith, bound, one, bare))
  ]
