use Rattle.std.proofs.Common.{◌≤◌, List, ◌++◌, ◌∷◌, [], map, sym, ◌∙◌}
use Rattle.std.specs.Prelude.{filter}
use Rattle.oil_tree.specs.declared.tree.Object.{Object}
use Rattle.oil_system.specs.declared.system.IsrObject.{IsrObject}
use Rattle.oil_model.specs.{declared.objects.Category.TheVariants.{Two}, Objects.{is_isr, priority}, Systems.{isr}}
use Rattle.oil_model.proofs.{Clean.{at_passing}, Collected.{collects, passes_over, collected}, Facts.{isr_priorities}}
use Rattle.oil_model.proofs.isrs.isrs.Goals as goal
use Rattle.oil_model.proofs.isrs.isrs.Goals.{then-is_isr+in_ok-isr+in_ok-push, else-is_isr}

pub isr-requires : goal.isr-requires
isr-requires c = at_passing (λ (o : Object). priority o ≤ 255) (is_isr Two) c.args.objects.now c.loop-object.object-index c.object-item.result (isr_priorities c.args.objects.now c.requires) c.loop-object-test.true c.object-item.is (sym c.is_isr.ensures ∙ c.if-is_isr.true)

pub loop-object-init : goal.loop-object-init
loop-object-init c = λ i. c.new-found.ensures.items i ++ map isr (filter (is_isr Two) c.args.objects.now)

pub loop-object-preserved : goal.loop-object-preserved
loop-object-preserved c =
    let before : List IsrObject = c.loop-object.found.items in
    elim c.if-is_isr.branch [
      | then-is_isr+in_ok-isr+in_ok-push w ↦ collects (is_isr Two) isr c.args.objects.now c.loop-object.object-index before c.loop-object.invariant c.object-item.result c.loop-object-test.true c.object-item.is (sym c.is_isr.ensures ∙ w.if-is_isr.true) ((λ i. (w.found-is i).items) ∙ w.in_ok-push.ensures.items ∙ (λ i. before ++ w.in_ok-isr.ensures i ∷ []))
      | else-is_isr w ↦ passes_over (is_isr Two) isr c.args.objects.now c.loop-object.object-index before c.loop-object.invariant c.object-item.result c.loop-object-test.true c.object-item.is (sym c.is_isr.ensures ∙ w.if-is_isr.false) (λ i. (w.found-is i).items)
    ]

pub returns : goal.returns
returns c = c.of.ensures ∙ collected (is_isr Two) isr c.args.objects.now c.loop-object.object-index c.loop-object.found.items c.loop-object.invariant c.loop-object-test.false
