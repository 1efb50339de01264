use Rattle.std.proofs.Common.{ℕ, ◌+◌, List, drop, sym, ap, ◌∙◌}
use Rattle.std.specs.{Prelude.{codes, Option}, List.{flat_map}}
use Rattle.std.proofs.lemmas.List.{at_drop_all}
use Rattle.oil_tree.specs.declared.tree.Object.{Object}
use Rattle.oil_model.specs.{Lines.{sooner, least}, Objects.{is_kind, objects_of}, Rules.{second_internals_of}}
use Rattle.oil_model.proofs.{Leasts.{sooner_assoc, sooner_none, least_append}, Repeats.{filter_yes, filter_not}}
use Rattle.oil_model.proofs.internals.least_second.Goals as goal
use Rattle.oil_model.proofs.internals.least_second.Goals.{then-is_kind, else-is_kind}

pub loop-object-preserved : goal.loop-object-preserved
loop-object-preserved c =
    let objects : List Object = c.args.objects.now in
    let x : Object = c.object-item.result in
    let seconds : Object → List ℕ = second_internals_of objects in
    let later : List ℕ = flat_map seconds (objects_of (codes "TASK") (drop (c.loop-object.object-index + 1) objects)) in
    let best : Option ℕ = c.loop-object.best in
    elim c.if-is_kind.branch [
      | then-is_kind w ↦
          let passes = filter_yes (is_kind (codes "TASK")) objects c.loop-object.object-index x c.loop-object-test.true c.object-item.is (sym c.is_kind.ensures ∙ w.if-is_kind.true) in
          let found = w.best-is ∙ w.sooner-best.ensures ∙ ap (sooner best) w.second_internal_of.ensures in
          (λ i. sooner (found i) (least later)) ∙ sym (sooner_assoc best (least (seconds x)) (least later)) ∙ ap (sooner best) (sym (least_append (seconds x) later)) ∙ (λ i. sooner best (least (flat_map seconds (sym passes i)))) ∙ c.loop-object.invariant
      | else-is_kind w ↦
          let passes = filter_not (is_kind (codes "TASK")) objects c.loop-object.object-index x c.loop-object-test.true c.object-item.is (sym c.is_kind.ensures ∙ w.if-is_kind.false) in
          (λ i. sooner (w.best-is i) (least (flat_map seconds (sym passes i)))) ∙ c.loop-object.invariant
    ]

pub returns : goal.returns
returns c = sym (sooner_none c.loop-object.best) ∙ sym (at_drop_all (λ (os : List Object). sooner c.loop-object.best (least (flat_map (second_internals_of c.args.objects.now) (objects_of (codes "TASK") os)))) c.args.objects.now c.loop-object.object-index c.loop-object-test.false) ∙ c.loop-object.invariant
