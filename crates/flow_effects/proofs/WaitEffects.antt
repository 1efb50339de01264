-- The effects of WaitEvent, with the cases in which the task goes on told together.
use Rattle.std.proofs.Common.{add-one, ◌≡◌, ◌≢◌, ℕ, ◌+◌, ◌<◌, Bool, true, false, List, [], ◌++◌, map, refl, sym, ap, subst, ◌∙◌, inl, inr, arith, Some, None}
use Rattle.std.specs.{Prelude.{Contains, IfSome, bit_and, if◌then◌else◌}, declared.option.Option.{Option}}
use Rattle.std.proofs.lemmas.{Bool.{cases_Bool}, Simd.{map-map}}
use Rattle.osek_values.specs.{Bits.{has_bit, passing_below}, Numbers.{event_no}, declared.{mask.Mask.{Mask}, numbers.{TaskNo.{TaskNo}, BlockNo.{BlockNo}}}}
use Rattle.osek_standard.specs.declared.{app.App.{App}, point.Point.{Point}}
use Rattle.osek_standard.specs.declared.point.Point.TheVariants as point
use Rattle.osek_standard.specs.Apps.{the_task, the_block}
use Rattle.osek_standard.proofs.Members.{contained_among, map_among}
use Rattle.abstract_state.specs.{Components.{component_number, component_count}, Domains.{HasMasks}}
use Rattle.abstract_state.specs.declared.value.ComponentNo.{ComponentNo}
use Rattle.abstract_state.specs.declared.value.Component.TheVariants as component
use Rattle.abstract_state.proofs.Numbers.{number_known}
use Rattle.flow_model.specs.declared.{case.EffectCase.{EffectCase}, test.Condition.{Condition}}
use Rattle.flow_model.specs.declared.change.Update.TheVariants as update
use Rattle.flow_model.specs.declared.runner.Runner.TheVariants as runner
use Rattle.flow_model.specs.{Effects.{AreCasesOf}, Runners.{change, moving}, Tests.{value_after}}
use Rattle.flow_model.proofs.{BitsOf.{among_bits, bit_within}, ChangeLaws.{change_there}}
use Rattle.flow_effects.specs.declared.waiting.Wait.{Wait}
use Rattle.flow_effects.specs.Waiting.{of_event, awaited_events, goes_on_by, extended_cases, wait_cases, event_component, IsBeforeEvent}
use Rattle.flow_effects.specs.Alternatives.{with_condition, alternative_cases, all_cases, AreApart, IsWaitAt, going_on, wait_effects}
use Rattle.flow_effects.proofs.WaitingCases.{all_waits}

module _ (app : App) (w : Wait) where
  alternatives : alternative_cases (going_on app w) ≡ map (goes_on_by app w.task w.next) (awaited_events app w.task w.mask)
  alternatives = map-map (with_condition (going_on app w).effect) (of_event app w.task true) (awaited_events app w.task w.mask)

  all_extended : all_cases (wait_effects app w) ≡ extended_cases app w.task w.block w.next w.mask
  all_extended = ap (λ (xs : List EffectCase). (wait_effects app w).cases ++ xs) alternatives

  module _ (p : Point) (is : IsWaitAt app p w) where
    extended : wait_cases app (runner.Task w.task) w.block w.next w.mask ≡ extended_cases app w.task w.block w.next w.mask
    extended = (rw is.extended refl)

    -- they are the cases of the instruction there
    pub wait_covered : HasMasks app → AreCasesOf app p (all_cases (wait_effects app w))
    wait_covered few =
        let e : wait_cases app (runner.Task w.task) w.block (the_block app w.block.0).next w.mask ≡ all_cases (wait_effects app w)
        = ap (λ (n : BlockNo). wait_cases app (runner.Task w.task) w.block n w.mask) (sym is.next) ∙ extended ∙ sym all_extended in
        subst (AreCasesOf app p) e
        (subst (λ (q : Point). AreCasesOf app q (wait_cases app (runner.Task w.task) w.block (the_block app w.block.0).next w.mask)) (sym is.point)
        (all_waits app w.block w.mask is.kind (runner.Task w.task) few is.owns))

    abbrev own : ℕ
    own = (the_task app w.task.0).own.0

    of_its_event : (y : Condition) → Contains (going_on app w).conditions y → (k : ℕ) × (y ≡ of_event app w.task true k) × (component_number app (component.Event w.task (event_no k)) < component_count app)
    of_its_event y m =
        let back = map_among (of_event app w.task true) y (awaited_events app w.task w.mask) (contained_among (going_on app w).conditions y m) in
        let bit = among_bits (bit_and w.mask.0 own) back.0 back.1 in
        (back.0, back.2, number_known app (component.Event w.task (event_no back.0)) (is.owns.0, bit.1, bit_within w.mask.0 own back.0 bit.0))

    -- an event's component is no task's
    other : (k : ℕ) → w.task.0 ≢ component_number app (component.Event w.task (event_no k))
    other k same = (let lt = is.owns.0 in omega (arith, same, lt))

    pub wait_apart : AreApart app (going_on app w)
    wait_apart = record {
      asked = refl;
      point = point.Task w.next;
      stay = refl;
      known = λ y m. (let k = of_its_event y m in subst (λ (z : Condition). z.component.0 < component_count app) (sym k.1) k.2);
      free = λ x y m n.
          (let k = of_its_event y n in
          let task : x.component.0 ≡ w.task.0 = elim (contained_among (going_on app w).effect.conditions x m) [ inl e ↦ ap (λ (z : Condition). z.component.0) e | inr none ↦ absurd none ] in
          λ same. other k.0 (sym task ∙ same ∙ ap (λ (z : Condition). z.component.0) k.1));
      kept = λ y v m.
          (let k = of_its_event y m in
          subst (λ (z : Condition). value_after (moving (runner.Task w.task) w.next) z.component.0 v ≡ v) (sym k.1)
          (change_there (change w.task.0 (update.Block w.next)) [] (component_number app (component.Event w.task (event_no k.0))) v (other k.0)));
    }

-- ---- the components of a task's own events

module _ (app : App) (t : TaskNo) (k : ℕ) where
  abbrev owns : ℕ → Bool
  owns = has_bit (the_task app t.0).own.0

  next_place : passing_below (has_bit (the_task app t.0).own.0) (k + 1) ≡ passing_below (has_bit (the_task app t.0).own.0) k + (if has_bit (the_task app t.0).own.0 k then 1 else 0)
  next_place = rw add-one refl

  -- behind that of an own event
  pub next_own : (x : ComponentNo) → has_bit (the_task app t.0).own.0 k ≡ true → x.0 ≡ event_component app t k → IsBeforeEvent app t (k + 1) x
  next_own x own is =
      let one : passing_below owns (k + 1) ≡ passing_below owns k + 1 = next_place ∙ ap (λ (b : Bool). passing_below owns k + (if b then 1 else 0)) own in
      omega (arith, one, is)

  -- behind another bit
  pub next_other : has_bit (the_task app t.0).own.0 k ≡ false → (o : Option ComponentNo) → IfSome o (IsBeforeEvent app t k) → IfSome o (IsBeforeEvent app t (k + 1))
  next_other other None h = tt
  next_other other (Some x) h =
      let same : passing_below owns (k + 1) ≡ passing_below owns k + 0 = next_place ∙ ap (λ (b : Bool). passing_below owns k + (if b then 1 else 0)) other in
      omega (arith, same, h)

  -- what isn't the task's own isn't awaited
  pub none_awaited : (m : Mask) (events : ℕ) → events ≡ bit_and m.0 (the_task app t.0).own.0 → has_bit (the_task app t.0).own.0 k ≡ false → has_bit events k ≡ false
  none_awaited m events is other = elim (cases_Bool (has_bit events k)) [
    | inl asked ↦
        (let own : has_bit (the_task app t.0).own.0 k ≡ true = bit_within m.0 (the_task app t.0).own.0 k (ap (λ (n : ℕ). has_bit n k) (sym is) ∙ asked) in
        absurd (cc))
    | inr not_asked ↦ not_asked
  ]
