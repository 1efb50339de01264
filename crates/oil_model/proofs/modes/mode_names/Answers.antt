use Rattle.std.proofs.Common.{ℕ, List, ◌++◌, ◌∷◌, [], map, sym, ◌∙◌}
use Rattle.std.specs.Prelude.{filter}
use Rattle.oil_model.specs.Objects.{is_other_mode, name_of}
use Rattle.oil_model.proofs.Collected.{collects, passes_over, collected}
use Rattle.oil_model.proofs.modes.mode_names.Goals as goal
use Rattle.oil_model.proofs.modes.mode_names.Goals.{then-is_other_mode+in_ok-copied+in_ok-push-2, else-is_other_mode}

pub loop-object-init : goal.loop-object-init
loop-object-init c =
    let first = c.in_ok-push.ensures.items ∙ (λ i. c.new-names.ensures.items i ++ c.in_ok-default_mode.ensures i ∷ []) in
    λ i. first i ++ map name_of (filter is_other_mode c.args.objects.now)

pub loop-object-preserved : goal.loop-object-preserved
loop-object-preserved c =
    let before : List (List ℕ) = c.loop-object.names.items in
    elim c.if-is_other_mode.branch [
      | then-is_other_mode+in_ok-copied+in_ok-push-2 w ↦ collects is_other_mode name_of c.args.objects.now c.loop-object.object-index before c.loop-object.invariant c.object-item.result c.loop-object-test.true c.object-item.is (sym c.is_other_mode.ensures ∙ w.if-is_other_mode.true) ((λ i. (w.names-is i).items) ∙ w.in_ok-push-2.ensures.items ∙ (λ i. before ++ w.in_ok-copied.ensures i ∷ []))
      | else-is_other_mode w ↦ passes_over is_other_mode name_of c.args.objects.now c.loop-object.object-index before c.loop-object.invariant c.object-item.result c.loop-object-test.true c.object-item.is (sym c.is_other_mode.ensures ∙ w.if-is_other_mode.false) (λ i. (w.names-is i).items)
    ]

pub returns : goal.returns
returns c = c.of.ensures ∙ collected is_other_mode name_of c.args.objects.now c.loop-object.object-index c.loop-object.names.items c.loop-object.invariant c.loop-object-test.false
