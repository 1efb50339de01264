-- A dispatch keeps the tasks stacked that are underway.
use Rattle.std.proofs.{Common.{◌≡◌, ◌≢◌, ℕ, ◌+◌, ◌<◌, Bool, true, false, cond, ◌&&◌, List, ◌∷◌, refl, sym, subst, ap, ◌∙◌, inl, inr, arith, nat_eq, Some, None, get_or-set_other}}
use Rattle.std.proofs.lemmas.Bool.{cases_Bool, cases_eq, eqb-true, eqb-false}
use Rattle.std.specs.{Prelude.{is_some}, declared.option.Option.{Option}}
use Rattle.osek_values.specs.{declared.numbers.TaskNo.{TaskNo}, Line.{place_in_line, without_first}}
use Rattle.osek_standard.specs.declared.{app.App.{App}, state.{State.{State}}, task_state.TaskState.{TaskState}}
use Rattle.osek_standard.specs.{TaskStates.{is_live, suspended}, States.{is_that_task, task_of, task_state, with_processor}, Internal.{internal_of, occupied, put_inside, with_inside}, Line.{first_in_line, out_of_line, turn, with_line}}
use Rattle.osek_standard.specs.{Dispatch.{dispatched}, Priority.{IsBest, base_priority, current_priority, highest}}
use Rattle.osek_standard.specs.declared.state.Processor.TheVariants as processor
use Rattle.kernel_guarantees.specs.Underway.{IsStacked, has_begun, is_current, is_underway}
use Rattle.kernel_guarantees.proofs.{Lines.{order_without, place_behind, place_first}, Stacked.{own, plain, winner_above}}

module _ (app : App) (s : State) (stacked : IsStacked app s) where
  turn_of : (t : ℕ) → is_current s t ≡ false → turn s t ≡ 1 + place_in_line s.line t
  turn_of t ready = ap (λ (b : Bool). cond b 0 (1 + place_in_line s.line t)) ready

  pub ready_by : (o : Option TaskNo) → task_of s.processor ≡ o → (t : ℕ) → is_that_task o t ≡ false → is_current s t ≡ false
  ready_by o e t h = ap (λ (p : Option TaskNo). is_that_task p t) e ∙ h

  pub ready_order : (t u : ℕ) → t ≢ u → is_underway app s t ≡ true → is_live (task_state s u) ≡ true → current_priority app s t ≡ current_priority app s u
      → is_current s t ≡ false → is_current s u ≡ false → place_in_line s.line t < place_in_line s.line u
  ready_order t u ne under live tie ready free = let h = stacked.ahead t u ne under ready live free tie in omega (arith, h, turn_of t ready, turn_of u free)

  pub first_order : (c : TaskNo) → task_of s.processor ≡ Some c → (t u : ℕ) → t ≢ u → is_underway app s t ≡ true → is_live (task_state s u) ≡ true
      → current_priority app s t ≡ current_priority app s u → place_in_line (c ∷ s.line) t < place_in_line (c ∷ s.line) u
  first_order c e t u ne under live tie = elim (cases_Bool (nat_eq c.0 t)) [
    | inl f ↦ (let same : c.0 ≡ t = eqb-true c.0 t f in
        let none : place_in_line (c ∷ s.line) t ≡ 0 = subst (λ (v : ℕ). place_in_line (c ∷ s.line) v ≡ 0) same (place_first c s.line) in
        let behind = place_behind c s.line u (λ g. ne (sym same ∙ sym g)) in
        omega (arith, none, behind))
    | inr f ↦ elim (cases_Bool (nat_eq c.0 u)) [
      | inl g ↦ absurd (let mine : is_current s u ≡ true = ap (λ (p : Option TaskNo). is_that_task p u) e ∙ g in
          let low = stacked.below u t mine ne under in omega (arith, low, tie, own app s u))
      | inr g ↦ (let h = ready_order t u ne under live tie (ready_by (Some c) e t f) (ready_by (Some c) e u g) in
          let p = place_behind c s.line t (λ k. eqb-false c.0 t f (sym k)) in
          let q = place_behind c s.line u (λ k. eqb-false c.0 u g (sym k)) in
          omega (arith, h, p, q))
    ]
  ]

module _ (app : App) (s : State) (stacked : IsStacked app s) (x : TaskNo) (best : IsBest app s x.0) (free : is_current s x.0 ≡ false)
    (strict : (c : ℕ) → is_current s c ≡ true → current_priority app s c < current_priority app s x.0) where
  -- the base of who gets the processor is above all that another has that is underway
  above_all : (u : ℕ) → u ≢ x.0 → is_underway app s u ≡ true → current_priority app s u < base_priority app x.0
  above_all u other under = elim (cases_Bool (is_current s u)) [
    | inl mine ↦ elim (cases_Bool (is_underway app s x.0)) [
      | inl e ↦ absurd (let low = stacked.below u x.0 mine (λ f. other (sym f)) e in let up = strict u mine in omega (arith, low, up, own app s u))
      | inr e ↦ (let same = plain app s x.0 best.live e in let up = strict u mine in omega (arith, same, up))
    ]
    | inr ready ↦ winner_above app s stacked x.0 u best free other under ready
  ]

  -- where two that are ready keep their order in a line
  abbrev KeepsOrder : List TaskNo → Type 0
  KeepsOrder line = (t u : ℕ) → t ≢ u → t ≢ x.0 → u ≢ x.0 → is_underway app s t ≡ true → is_live (task_state s u) ≡ true
      → current_priority app s t ≡ current_priority app s u → place_in_line line t < place_in_line line u

  module _ (line : List TaskNo) (order : KeepsOrder line) where
    abbrev after : State
    after = with_processor (with_inside (with_line s line) x.0 (is_some (internal_of app x.0))) (processor.Running x)

    same_task : (u : ℕ) → u ≢ x.0 → task_state after u ≡ task_state s u
    same_task u other = get_or-set_other s.tasks x.0 u _ suspended other

    same_under : (u : ℕ) → u ≢ x.0 → is_underway app after u ≡ is_underway app s u
    same_under u other = ap (λ (y : TaskState). is_live y && has_begun app u y) (same_task u other)

    same_priority : (u : ℕ) → u ≢ x.0 → current_priority app after u ≡ current_priority app s u
    same_priority u other = ap (λ (y : TaskState). highest app (base_priority app u) (occupied app u y)) (same_task u other)

    above_after : (u : ℕ) → u ≢ x.0 → is_underway app after u ≡ true → current_priority app after u < base_priority app x.0
    above_after u other under = let h = above_all u other (sym (same_under u other) ∙ under) in omega (arith, h, same_priority u other)

    turn_after : (t : ℕ) → is_current after t ≡ false → turn after t ≡ 1 + place_in_line line t
    turn_after t ready = ap (λ (b : Bool). cond b 0 (1 + place_in_line line t)) ready

    stacked_after : IsStacked app after
    stacked_after = record {
      apart = λ t u ne a b. elim (cases_eq t x.0) [
        | inl same ↦ inr (subst (λ (v : ℕ). current_priority app after u < base_priority app v) (sym same) (above_after u (λ f. ne (same ∙ sym f)) b))
        | inr other ↦ elim (cases_eq u x.0) [
          | inl same ↦ inl (subst (λ (v : ℕ). current_priority app after t < base_priority app v) (sym same) (above_after t other a))
          | inr also ↦ elim (stacked.apart t u ne (sym (same_under t other) ∙ a) (sym (same_under u also) ∙ b)) [
            | inl h ↦ inl (omega (arith, h, same_priority t other))
            | inr h ↦ inr (omega (arith, h, same_priority u also))
          ]
        ]
      ];
      below = λ c u mine other under.
          let same : x.0 ≡ c = eqb-true x.0 c mine in
          subst (λ (v : ℕ). current_priority app after u < base_priority app v) same (above_after u (λ f. other (f ∙ same)) under);
      ahead = λ t u ne under ready live free tie.
          let other : t ≢ x.0 = λ f. eqb-false x.0 t ready (sym f) in
          let also : u ≢ x.0 = λ f. eqb-false x.0 u free (sym f) in
          let h = order t u ne other also (sym (same_under t other) ∙ under) (subst (λ (y : TaskState). is_live y ≡ true) (same_task u also) live)
          (sym (same_priority t other) ∙ tie ∙ same_priority u also) in
          omega (arith, h, turn_after t ready, turn_after u free);
    }

  dispatched_by : (o : Option TaskNo) → task_of s.processor ≡ o → IsStacked app (with_processor (put_inside app (out_of_line (first_in_line s o) (Some x)) (Some x)) (processor.Running x))
  dispatched_by None e = stacked_after (without_first s.line x.0)
      (λ t u ne other also under live tie. order_without x.0 t u s.line other also (ready_order app s stacked t u ne under live tie (ready_by app s stacked None e t refl) (ready_by app s stacked None e u refl)))
  dispatched_by (Some c) e = stacked_after (without_first (c ∷ s.line) x.0)
      (λ t u ne other also under live tie. order_without x.0 t u (c ∷ s.line) other also (first_order app s stacked c e t u ne under live tie))

  pub dispatch_keeps : IsStacked app (dispatched app s (Some x))
  dispatch_keeps = dispatched_by (task_of s.processor) refl
