use Rattle.std.proofs.Common.{ℕ, List, ◌++◌, ◌∷◌, [], map, sym, ◌∙◌}
use Rattle.std.specs.Prelude.{filter}
use Rattle.oil_model.specs.{declared.objects.Category.TheVariants.{One}, Objects.{is_isr, name_of}}
use Rattle.oil_model.proofs.Collected.{collects, passes_over, collected}
use Rattle.oil_model.proofs.isrs.category_1_isrs.Goals as goal
use Rattle.oil_model.proofs.isrs.category_1_isrs.Goals.{then-is_isr+in_ok-copied+in_ok-push, else-is_isr}

pub loop-object-init : goal.loop-object-init
loop-object-init c = λ i. c.new-names.ensures.items i ++ map name_of (filter (is_isr One) c.args.objects.now)

pub loop-object-preserved : goal.loop-object-preserved
loop-object-preserved c =
    let before : List (List ℕ) = c.loop-object.names.items in
    elim c.if-is_isr.branch [
      | then-is_isr+in_ok-copied+in_ok-push w ↦ collects (is_isr One) name_of c.args.objects.now c.loop-object.object-index before c.loop-object.invariant c.object-item.result c.loop-object-test.true c.object-item.is (sym c.is_isr.ensures ∙ w.if-is_isr.true) ((λ i. (w.names-is i).items) ∙ w.in_ok-push.ensures.items ∙ (λ i. before ++ w.in_ok-copied.ensures i ∷ []))
      | else-is_isr w ↦ passes_over (is_isr One) name_of c.args.objects.now c.loop-object.object-index before c.loop-object.invariant c.object-item.result c.loop-object-test.true c.object-item.is (sym c.is_isr.ensures ∙ w.if-is_isr.false) (λ i. (w.names-is i).items)
    ]

pub returns : goal.returns
returns c = c.of.ensures ∙ collected (is_isr One) name_of c.args.objects.now c.loop-object.object-index c.loop-object.names.items c.loop-object.invariant c.loop-object-test.false
