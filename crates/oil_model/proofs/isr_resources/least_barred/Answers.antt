use Rattle.std.proofs.Common.{ℕ, ◌+◌, List, drop, sym, ap, ◌∙◌}
use Rattle.std.specs.{Prelude.{Option, filter}, List.{flat_map}}
use Rattle.std.proofs.lemmas.List.{at_drop_all}
use Rattle.oil_tree.specs.declared.tree.Object.{Object}
use Rattle.oil_model.specs.{declared.objects.Category.TheVariants.{Two}, Lines.{sooner, least}, Objects.{is_isr}, Rules.{barred_resources_of}}
use Rattle.oil_model.proofs.{Leasts.{sooner_assoc, sooner_none, least_append}, Repeats.{filter_yes, filter_not}}
use Rattle.oil_model.proofs.isr_resources.least_barred.Goals as goal
use Rattle.oil_model.proofs.isr_resources.least_barred.Goals.{then-is_isr, else-is_isr}

pub loop-object-preserved : goal.loop-object-preserved
loop-object-preserved c =
    let objects : List Object = c.args.objects.now in
    let x : Object = c.object-item.result in
    let barred : Object → List ℕ = barred_resources_of c.args.scheduler objects in
    let later : List ℕ = flat_map barred (filter (is_isr Two) (drop (c.loop-object.object-index + 1) objects)) in
    let best : Option ℕ = c.loop-object.best in
    elim c.if-is_isr.branch [
      | then-is_isr w ↦
          let passes = filter_yes (is_isr Two) objects c.loop-object.object-index x c.loop-object-test.true c.object-item.is (sym c.is_isr.ensures ∙ w.if-is_isr.true) in
          let found = w.best-is ∙ w.sooner-best.ensures ∙ ap (sooner best) w.barred_resource_of.ensures in
          (λ i. sooner (found i) (least later)) ∙ sym (sooner_assoc best (least (barred x)) (least later)) ∙ ap (sooner best) (sym (least_append (barred x) later)) ∙ (λ i. sooner best (least (flat_map barred (sym passes i)))) ∙ c.loop-object.invariant
      | else-is_isr w ↦
          let passes = filter_not (is_isr Two) objects c.loop-object.object-index x c.loop-object-test.true c.object-item.is (sym c.is_isr.ensures ∙ w.if-is_isr.false) in
          (λ i. sooner (w.best-is i) (least (flat_map barred (sym passes i)))) ∙ c.loop-object.invariant
    ]

pub returns : goal.returns
returns c = sym (sooner_none c.loop-object.best) ∙ sym (at_drop_all (λ (os : List Object). sooner c.loop-object.best (least (flat_map (barred_resources_of c.args.scheduler c.args.objects.now) (filter (is_isr Two) os)))) c.args.objects.now c.loop-object.object-index c.loop-object-test.false) ∙ c.loop-object.invariant
