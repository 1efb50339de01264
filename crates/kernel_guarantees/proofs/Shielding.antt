-- Of the tasks that are ready, one that is underway stands before each other one whose own priority isn't above all that it has.
use Rattle.std.proofs.Common.{◌≡◌, ◌≢◌, ◌⊎◌, ℕ, ◌<◌, Bool, true, false, List, [], ◌∷◌, refl, sym, subst, ap, ◌∙◌, arith, nat_eq, inl, inr, Some, None}
use Rattle.std.proofs.lemmas.Bool.{cases_Bool, eq-eqb, eqb-false, eqb-true, false≢true}
use Rattle.std.specs.{Prelude.{slice_index_or}, declared.option.Option.{Option}}
use Rattle.osek_values.specs.declared.{event.Event.{Event}, numbers.{ModeNo.{ModeNo}, TaskNo.{TaskNo}}, status.Ask.{Ask}}
use Rattle.osek_values.specs.declared.status.Ask.TheVariants as ask
use Rattle.osek_standard.specs.declared.{app.App.{App}, task_state.TaskState.{TaskState}, state.{State.{State}, Processor.{Processor}}}
use Rattle.osek_standard.specs.{TaskStates.{is_live, suspended}, States.{is_that_task, task_of, task_state}, Line.{first_in_line}, Priority.{base_priority, best, current_priority}}
use Rattle.osek_standard.specs.{Effects.{effect}, Kernel.{initial, start, step}, Dispatch.{Stepped, dispatched, if_any, instruction, outcome_by, settled}, Well.{IsActive, Well}}
use Rattle.osek_standard.specs.declared.state.Processor.TheVariants as processor
use Rattle.kernel_guarantees.specs.{Reached.{IsReached, after}, Underway.{is_begun, is_current, is_underway}}
use Rattle.kernel_guarantees.proofs.{GoingAhead.{Before, effect_orders, first_before, free_after, kept_line, no_place}, Lines.{order_without, place_behind, place_first, place_past, place_within}}
use Rattle.kernel_guarantees.proofs.Outcomes.{IsOutcome, as_high, asked, effected, given_other, kept_processor, next, outcome, rests, unmoved}
use Rattle.kernel_guarantees.proofs.{Preempting.{waits_as_high}, Reaching.{reached_is_well, start_is_reached, step_is_reached}, Rescheduling.{HasAsked}, Stacked.{under_is_live}, StackedDeeds.{has_place}}
use Rattle.kernel_guarantees.proofs.{StackedSteps.{none_underway, not_live, reached_is_stacked}, Stepping.{IsQuiet, step_goes_by}, Stopped.{halted_stays}}

-- t is above all that u has, or behind it
abbrev pub IsApart : App → State → ℕ → ℕ → Type 0
IsApart app s t u = (current_priority app s u < base_priority app t) ⊎ Before s.line u t

abbrev pub IsShielded : App → State → Type 0
IsShielded app s = (t u : ℕ) → t ≢ u → is_underway app s u ≡ true → is_current s u ≡ false → is_live (task_state s t) ≡ true → is_current s t ≡ false → IsApart app s t u

abbrev IsShieldedOrHalted : App → State → Type 0
IsShieldedOrHalted app s = (s.processor ≡ processor.Halted) ⊎ IsShielded app s

-- one instruction
module _ (app : App) (s : State) (reached : IsReached app s) (active : IsActive s.processor) (choice : Bool) where
  well : Well app s
  well = reached_is_well app s reached

  abbrev r : State
  r = effected app s well active choice

  abbrev n : State
  n = next app s well active choice

  -- where two tasks don't have the processor, their order stays
  order_by : (a b : ℕ) → is_current r a ≡ false → is_current r b ≡ false → Before r.line a b → (m : State) → IsOutcome app s r m → is_current m a ≡ false → is_current m b ≡ false → Before m.line a b
  order_by a b free beside order m (inl is) f g = subst (λ (line : List TaskNo). Before line a b) (sym (ap (λ (x : State). x.line) is ∙ kept_line app r r.processor)) order
  order_by a b free beside order m (inr (inl x)) f g =
      let other : (v : ℕ) → is_current m v ≡ false → v ≢ x.task.0 = λ v e same. eqb-false x.task.0 v (sym (ap (λ (y : State). is_current y v) x.is) ∙ e) (sym same) in
      subst (λ (line : List TaskNo). Before line a b) (sym (ap (λ (y : State). y.line) x.is))
      (order_without x.task.0 a b (first_in_line r (task_of r.processor)).line (other a f) (other b g) (first_before r a b (task_of r.processor) refl free beside order))
  order_by a b free beside order m (inr (inr h)) f g =
      subst (λ (line : List TaskNo). Before line a b) (sym (ap (λ (y : State). y.line) h.is)) (first_before r a b (task_of r.processor) refl free beside order)

  -- who was current and isn't after the effect left, or the kernel halted
  gone_by : (a : Ask) → HasAsked app s r a → (u : ℕ) → is_current s u ≡ true → is_current r u ≡ false → (r.processor ≡ processor.Halted) ⊎ (is_underway app r u ≡ false)
  gone_by ask.No (inl e) u now free = absurd (false≢true (sym free ∙ ap (λ (o : Option TaskNo). is_that_task o u) e ∙ now))
  gone_by ask.No (inr h) u now free = inl h.0
  gone_by ask.Maybe h u now free = absurd (false≢true (sym free ∙ ap (λ (o : Option TaskNo). is_that_task o u) (ap task_of h.0.runs ∙ sym h.0.was) ∙ now))
  gone_by ask.Left h u now free =
      let same : h.0.task.0 ≡ u = eqb-true h.0.task.0 u (sym (ap (λ (p : Processor). is_that_task (task_of p) u) h.0.ran) ∙ now) in
      inr (subst (λ (v : ℕ). is_underway app r v ≡ false) same (elim h.0.gone [ inl ends ↦ ends.1 | inr dead ↦ not_live app h.0.task.0 (task_state r h.0.task.0) dead ]))
  gone_by ask.Free h u now free = absurd (false≢true (ap (λ (o : Option TaskNo). is_that_task o u) (sym h.1) ∙ now))

  halted_by_ask : (a : Ask) → HasAsked app s r a → r.processor ≡ processor.Halted → (settled app r (outcome_by app r a)).processor ≡ processor.Halted
  halted_by_ask ask.No h e = kept_processor app r r.processor ∙ e
  halted_by_ask ask.Maybe h e = absurd (cc (h.0.runs, e))
  halted_by_ask ask.Left h e = absurd (cc (h.0.idle, e))
  halted_by_ask ask.Free h e = absurd (cc (h.0, e))

  halts : r.processor ≡ processor.Halted → n.processor ≡ processor.Halted
  unfolding instruction
  halts e = halted_by_ask (effect app s choice).ask (asked app s well active choice) e

  module _ (shielded : IsShielded app s) (runs_on : r.processor ≡ processor.Halted → ⊥) (t u : ℕ) (ne : t ≢ u) (under : is_underway app n u ≡ true) (free : is_current n u ≡ false) (rest : is_current n t ≡ false) where
    same_under : is_underway app n u ≡ is_underway app r u
    same_under = ap (is_begun app u) (unmoved app s well active choice u free)

    -- a preempted task goes first
    first_by : (c : TaskNo) → task_of s.processor ≡ Some c → c.0 ≡ u → (m : State) → n ≡ m → IsOutcome app s r m → Before n.line u t
    first_by c was same m now (inl is) =
        let left : is_current r u ≡ false = sym (ap (λ (x : State). is_current x u) (now ∙ is) ∙ ap (λ (p : Processor). is_that_task (task_of p) u) (kept_processor app r r.processor)) ∙ free in
        absurd (elim (gone_by (effect app s choice).ask (asked app s well active choice) u (ap (λ (o : Option TaskNo). is_that_task o u) was ∙ sym_true same) left) [
          | inl off ↦ runs_on off
          | inr fresh ↦ false≢true (sym fresh ∙ sym same_under ∙ under)
        ]) where
          sym_true : c.0 ≡ u → nat_eq c.0 u ≡ true
          sym_true e = eq-eqb c.0 u e
    first_by c was same m now (inr (inl g)) =
        let is : n ≡ dispatched app r (Some g.task) = now ∙ g.is in
        let differs : (v : ℕ) → is_current n v ≡ false → v ≢ g.task.0 = λ v e f. eqb-false g.task.0 v (sym (ap (λ (x : State). is_current x v) is) ∙ e) (sym f) in
        let fresh_not : is_underway app r c.0 ≡ false → ⊥ = λ e. false≢true (sym e ∙ ap (is_underway app r) same ∙ sym same_under ∙ under) in
        elim (g.why c was) [
          | inl up ↦ (let ahead : Before (c ∷ r.line) c.0 t = omega (arith, place_first c r.line, place_behind c r.line t (λ e. ne (e ∙ same))) in
              let order : Before (first_in_line r (task_of r.processor)).line c.0 t = subst (λ (o : Option TaskNo). Before (first_in_line r o).line c.0 t) (sym (ap task_of up.0)) ahead in
              let kept : Before n.line c.0 t = subst (λ (line : List TaskNo). Before line c.0 t) (sym (ap (λ (x : State). x.line) is))
              (order_without g.task.0 c.0 t (first_in_line r (task_of r.processor)).line (λ e. differs u free (sym same ∙ e)) (differs t rest) order) in
              subst (λ (v : ℕ). Before n.line v t) same kept)
          | inr gone ↦ absurd (elim gone [ inl ends ↦ fresh_not ends.1 | inr dead ↦ fresh_not (not_live app c.0 (task_state r c.0) dead) ])
        ]
    first_by c was same m now (inr (inr h)) = absurd (false≢true (sym (h.none u) ∙ under_is_live app r u (sym same_under ∙ under)))

    first_of : (o : Option TaskNo) → task_of s.processor ≡ o → is_that_task o u ≡ true → Before n.line u t
    first_of None was mine = absurd (false≢true mine)
    first_of (Some c) was mine = first_by c was (eqb-true c.0 u mine) n refl (outcome app s well active choice)

    module _ (live : is_live (task_state n t) ≡ true) where
      high : current_priority app n u ≡ current_priority app r u
      high = as_high app s well active choice u free

      -- a task that was ready too
      waited : is_current s u ≡ false → IsApart app n t u
      waited ready =
          let u_rests = rests app s well active choice u ready in
          let was_under : is_underway app s u ≡ true = elim (cases_Bool (is_underway app s u)) [
            | inl e ↦ e
            | inr e ↦ absurd (false≢true (sym (u_rests.begun e) ∙ sym same_under ∙ under))
          ] in
          let was_live = under_is_live app s u was_under in
          let stays : is_current s t ≡ false → Before s.line u t → Before n.line u t = λ t_ready order.
          let after_effect = effect_orders app s u t ready (λ _. t_ready) (has_place app s well u was_live ready) order well active choice in
          order_by u t (free_after app s well active choice u ready) (free_after app s well active choice t t_ready) after_effect n (outcome app s well active choice) free rest in
          elim (cases_Bool (is_current s t)) [
            | inl now ↦ (let low = (reached_is_stacked app s reached).below t u now (λ e. ne (sym e)) was_under in inl (omega (arith, low, high, u_rests.priority)))
            | inr t_ready ↦ elim (cases_Bool (is_live (task_state s t))) [
              | inl t_live ↦ elim (shielded t u ne was_under ready t_live t_ready) [
                | inl low ↦ inl (omega (arith, low, high, u_rests.priority))
                | inr order ↦ inr (stays t_ready order)
              ]
              | inr dead ↦ (let within = place_within s.line u (has_place app s well u was_live ready) in
                  let past = place_past s.line t (no_place app s reached t dead) in
                  inr (stays t_ready (omega (arith, within, past))))
            ]
          ]

      apart_after : IsApart app n t u
      apart_after = elim (cases_Bool (is_current s u)) [
        | inl mine ↦ inr (first_of (task_of s.processor) refl mine)
        | inr ready ↦ waited ready
      ]

  shielded_after : IsShielded app s → IsShieldedOrHalted app n
  shielded_after shielded = by r.processor refl where
    on : (r.processor ≡ processor.Halted → ⊥) → IsShielded app n
    on runs_on t u ne under free live rest = apart_after shielded runs_on t u ne under free rest live

    by : (p : Processor) → r.processor ≡ p → IsShieldedOrHalted app n
    by processor.Halted e = inl (halts e)
    by processor.Idle e = inr (on (λ off. cc (e, off)))
    by (processor.Running c) e = inr (on (λ off. cc (e, off)))
    by (processor.Interrupted k over) e = inr (on (λ off. cc (e, off)))

module _ (app : App) where
  quiet_shielded : (s : State) (e : Event) → IsReached app s → IsQuiet app s e (step app s e).state → IsShielded app s → IsShielded app (step app s e).state
  quiet_shielded s e reached quiet h t u ne under free live rest =
      let n = (step app s e).state in
      let was : (v : ℕ) → is_current s v ≡ is_current n v = λ v. ap (λ (o : Option TaskNo). is_that_task o v) (sym quiet.current) in
      let task : (v : ℕ) → task_state s v ≡ task_state n v = λ v. ap (λ (tasks : List TaskState). slice_index_or tasks v suspended) (sym quiet.tasks) in
      elim (h t u ne (ap (is_begun app u) (task u) ∙ under) (was u ∙ free) (ap is_live (task t) ∙ live) (was t ∙ rest)) [
        | inl low ↦ inl (omega (arith, low, waits_as_high app s reached e u (was u ∙ free) free))
        | inr order ↦ inr (subst (λ (line : List TaskNo). Before line u t) (sym quiet.line) order)
      ]

  step_shielded : (s : State) (e : Event) → IsReached app s → IsShieldedOrHalted app s → IsShieldedOrHalted app (step app s e).state
  step_shielded s e reached (inl off) = inl (ap (λ (x : Stepped). x.state.processor) (halted_stays app s off e).1 ∙ off)
  step_shielded s e reached (inr h) = elim (step_goes_by app s e) [
    | inl quiet ↦ inr (quiet_shielded s e reached quiet h)
    | inr i ↦ subst (IsShieldedOrHalted app) (sym i.is) (shielded_after app s reached i.does.active i.does.choice h)
  ]

  -- at the start no ready task is underway
  start_fresh : (mode : ModeNo) (o : Option TaskNo) (u : ℕ) → is_current (settled app (initial app mode) (if_any o)) u ≡ false → is_underway app (settled app (initial app mode) (if_any o)) u ≡ false
  start_fresh mode None u free = none_underway app mode u
  start_fresh mode (Some x) u free = ap (is_begun app u) (given_other app (initial app mode) x None u (λ same. eqb-false x.0 u free (sym same))) ∙ none_underway app mode u

  start_shielded : (mode : ModeNo) → IsShieldedOrHalted app (start app mode).state
  unfolding start
  start_shielded mode = inr (λ t u ne under free live rest. absurd (false≢true (sym (start_fresh mode (best app (initial app mode)) u free) ∙ under)))

  along : (s : State) (es : List Event) → IsReached app s → IsShieldedOrHalted app s → IsShieldedOrHalted app (after app s es)
  along s [] reached h = h
  along s (e ∷ es) reached h = along (step app s e).state es (step_is_reached app s e reached) (step_shielded s e reached h)

  pub reached_is_shielded : (s : State) → IsReached app s → IsActive s.processor → IsShielded app s
  reached_is_shielded s reached active = elim (subst (IsShieldedOrHalted app) reached.comes (along (start app reached.mode).state reached.events (start_is_reached app reached.mode reached.known) (start_shielded reached.mode))) [
    | inl off ↦ absurd (subst IsActive off active)
    | inr h ↦ h
  ]
