use Rattle.std.proofs.Common.{rules, ◌≡◌, ℕ, ◌+◌, ◌∙◌, arith, Bool, true, false, List, [], ◌∷◌, ◌++◌, map, filter, sym, ap, subst}
use Rattle.std.specs.{Prelude.{IfSome, if◌then◌else◌}, List.{range_with_len}, declared.option.Option.{Option}}
use Rattle.osek_values.specs.declared.numbers.TaskNo.{TaskNo}
use Rattle.osek_values.specs.Bits.{has_bit, bits_of}
use Rattle.osek_standard.specs.{declared.app.App.{App}, Apps.{the_task}}
use Rattle.abstract_state.specs.declared.value.ComponentNo.{ComponentNo}
use Rattle.abstract_state.specs.declared.value.PartValue.TheVariants.{OfEvent}
use Rattle.flow_model.specs.declared.test.Condition.{Condition}
use Rattle.flow_model.specs.declared.test.Test.TheVariants as test
use Rattle.flow_effects.specs.Waiting.{of_event, event_component, IsBeforeEvent}
use Rattle.flow_services.proofs.ListLaws.{passed_after, failed_after}
use Rattle.flow_effects.proofs.ListLaws.{bits_by}
use Rattle.flow_effects.proofs.WaitEffects.{next_own, next_other, none_awaited}
use Rattle.flow_effects.proofs.waiting.add_events.Goals as goal
use Rattle.flow_effects.proofs.waiting.add_events.Goals.{then-has+in_ok-add_asked, else-has}

-- an own event is asked, or isn't
module _ (app : App) (t : TaskNo) (set : Bool) (events k : ℕ) (old so_far : List Condition) (is : so_far ≡ old ++ map (of_event app t set) (filter (has_bit events) (range_with_len 0 k))) where
  asked_or_not : (asked : Bool) → asked ≡ has_bit events k → (if asked then so_far ++ of_event app t set k ∷ [] else so_far) ≡ old ++ map (of_event app t set) (filter (has_bit events) (range_with_len 0 (k + 1)))
  asked_or_not true e = passed_after old so_far (has_bit events) (of_event app t set) k is (sym e)
  asked_or_not false e = failed_after old so_far (has_bit events) (of_event app t set) k is (sym e)

-- by the number of its component
same_condition : (app : App) (t : TaskNo) (set : Bool) (k : ℕ) (x : ComponentNo) → x.0 ≡ event_component app t k → record { component = x; test = test.Is (OfEvent set) } ≡ of_event app t set k
same_condition app t set k x e = λ i. record { component = record { 0 = e i }; test = test.Is (OfEvent set) }

pub loop-bit-preserved : goal.loop-bit-preserved
loop-bit-preserved c =
    let app = c.args.app.now in
    let t = c.args.task in
    let k = c.loop-bit.bit in
    let events = c.awaited-events.result.0 in
    let inv = c.loop-bit.invariant in
    elim c.if-has.branch [
      | then-has+in_ok-add_asked w ↦
          (let own : has_bit (the_task app t.0).own.0 k ≡ true = search rules in
          record {
            conditions =
                w.conditions-is ∙ w.in_ok-add_asked.ensures
                ∙ ap (λ (x : Condition). if w.has-then-has.result then c.loop-bit.conditions ++ x ∷ [] else c.loop-bit.conditions) (same_condition app t c.args.set k w.event_behind-component.result w.event_behind-component.ensures)
                ∙ asked_or_not app t c.args.set events k c.args.conditions.now c.loop-bit.conditions inv.conditions w.has-then-has.result w.has-then-has.ensures;
            last = subst (λ (o : Option ComponentNo). IfSome o (IsBeforeEvent app t (k + 1))) (sym w.last-is) (next_own app t k w.event_behind-component.result own w.event_behind-component.ensures);
          })
      | else-has w ↦
          (let other : has_bit (the_task app t.0).own.0 k ≡ false = search rules in
          record {
            conditions = w.conditions-is ∙ failed_after c.args.conditions.now c.loop-bit.conditions (has_bit events) (of_event app t c.args.set) k inv.conditions (none_awaited app t k c.args.mask events c.awaited-events.ensures other);
            last = subst (λ (o : Option ComponentNo). IfSome o (IsBeforeEvent app t (k + 1))) (sym w.last-is) (next_other app t k other c.loop-bit.last inv.last);
          })
    ]

pub returns : goal.returns
returns c =
    let last = c.loop-bit-test.false in
    let end : c.loop-bit.bit ≡ 64 = omega (arith, last, c.loop-bit.auto.bit-end) in
    c.loop-bit.invariant.conditions ∙ ap (λ (xs : List ℕ). c.args.conditions.now ++ map (of_event c.args.app.now c.args.task c.args.set) xs) (bits_by c.awaited-events.result.0 c.loop-bit.bit end ∙ ap bits_of c.awaited-events.ensures)
