-- the events to come, from the bits of explicit masks on
use Rattle.std.proofs.{Common.{◌≡◌, ℕ, ◌+◌, List, ◌++◌, ◌∷◌, [], drop, append_assoc, sym, ap, ◌∙◌}, lemmas.List.{append-nil, at_drop_all}}
use Rattle.std.specs.Prelude.{codes, bit_or}
use Rattle.oil_tree.specs.declared.tree.Object.{Object}
use Rattle.oil_system.specs.declared.system.EventObject.{EventObject}
use Rattle.oil_model.specs.{Objects.{is_kind, objects_of, mask_of}, Systems.{event, events_from}}
use Rattle.oil_model.proofs.Repeats.{filter_yes, filter_not}
use Rattle.oil_model.proofs.events.events.Goals as goal
use Rattle.oil_model.proofs.events.events.Goals.{then-is_kind+in_ok-name+in_ok-push, else-is_kind}

pub loop-object-init : goal.loop-object-init
loop-object-init c = λ i. c.new-found.ensures.items i ++ events_from (c.explicit_bits-used.ensures i) (objects_of (codes "EVENT") c.args.objects.now)

pub loop-object-preserved : goal.loop-object-preserved
loop-object-preserved c =
    let objects : List Object = c.args.objects.now in
    let x : Object = c.object-item.result in
    let rest : List Object = objects_of (codes "EVENT") (drop (c.loop-object.object-index + 1) objects) in
    let before : List EventObject = c.loop-object.found.items in
    let used : ℕ = c.loop-object.used in
    elim c.if-is_kind.branch [
      | then-is_kind+in_ok-name+in_ok-push w ↦
          let passes = filter_yes (is_kind (codes "EVENT")) objects c.loop-object.object-index x c.loop-object-test.true c.object-item.is (sym c.is_kind.ensures ∙ w.if-is_kind.true) in
          let mask = w.mask_of-mask.ensures in
          let pushed : c.if-is_kind.found.items ≡ before ++ event (mask_of used x) x ∷ [] = (λ i. (w.found-is i).items) ∙ w.in_ok-push.ensures.items ∙ (λ i. before ++ record { name = w.in_ok-name.ensures i; mask = record { 0 = mask i } } ∷ []) in
          (λ i. pushed i ++ events_from ((w.used-is ∙ ap (bit_or used) mask) i) rest) ∙ append_assoc before _ _ ∙ (λ i. before ++ events_from used (sym passes i)) ∙ c.loop-object.invariant
      | else-is_kind w ↦
          let passes = filter_not (is_kind (codes "EVENT")) objects c.loop-object.object-index x c.loop-object-test.true c.object-item.is (sym c.is_kind.ensures ∙ w.if-is_kind.false) in
          (λ i. (w.found-is i).items ++ events_from (w.used-is i) (sym passes i)) ∙ c.loop-object.invariant
    ]

pub returns : goal.returns
returns c = c.of.ensures ∙ sym (append-nil c.loop-object.found.items) ∙ sym (at_drop_all (λ (os : List Object). c.loop-object.found.items ++ events_from c.loop-object.used (objects_of (codes "EVENT") os)) c.args.objects.now c.loop-object.object-index c.loop-object-test.false) ∙ c.loop-object.invariant
