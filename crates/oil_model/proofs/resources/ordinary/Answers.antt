use Rattle.std.proofs.Common.{List, ◌++◌, ◌∷◌, [], map, sym, ◌∙◌}
use Rattle.std.specs.Prelude.{codes, filter}
use Rattle.oil_tree.specs.declared.tree.Object.{Object}
use Rattle.oil_system.specs.declared.objects.Resource.{Resource}
use Rattle.oil_model.specs.{declared.objects.Category.TheVariants.{Two}, Objects.{is_isr, is_ordinary, objects_of}, Systems.{resource}}
use Rattle.oil_model.proofs.Collected.{collects, passes_over, collected}
use Rattle.oil_model.proofs.resources.ordinary.Goals as goal
use Rattle.oil_model.proofs.resources.ordinary.Goals.{then-is_ordinary+in_ok-resource+in_ok-push, else-is_ordinary}

-- how a resource is read beside all objects
abbrev made : List Object → Object → Resource
made objects = resource (objects_of (codes "TASK") objects) (filter (is_isr Two) objects)

pub loop-object-init : goal.loop-object-init
loop-object-init c = λ i. c.new-found.ensures.items i ++ map (made c.args.objects.now) (filter (is_ordinary c.args.scheduler) c.args.objects.now)

pub loop-object-preserved : goal.loop-object-preserved
loop-object-preserved c =
    let before : List Resource = c.loop-object.found.items in
    elim c.if-is_ordinary.branch [
      | then-is_ordinary+in_ok-resource+in_ok-push w ↦ collects (is_ordinary c.args.scheduler) (made c.args.objects.now) c.args.objects.now c.loop-object.object-index before c.loop-object.invariant c.object-item.result c.loop-object-test.true c.object-item.is (sym c.is_ordinary.ensures ∙ w.if-is_ordinary.true) ((λ i. (w.found-is i).items) ∙ w.in_ok-push.ensures.items ∙ (λ i. before ++ w.in_ok-resource.ensures i ∷ []))
      | else-is_ordinary w ↦ passes_over (is_ordinary c.args.scheduler) (made c.args.objects.now) c.args.objects.now c.loop-object.object-index before c.loop-object.invariant c.object-item.result c.loop-object-test.true c.object-item.is (sym c.is_ordinary.ensures ∙ w.if-is_ordinary.false) (λ i. (w.found-is i).items)
    ]

pub returns : goal.returns
returns c = collected (is_ordinary c.args.scheduler) (made c.args.objects.now) c.args.objects.now c.loop-object.object-index c.loop-object.found.items c.loop-object.invariant c.loop-object-test.false
