use Rattle.std.proofs.Common.{sym, ◌∙◌}
use Rattle.std.specs.Prelude.{Some}
use Rattle.oil_model.specs.{Lines.{sooner}, Objects.{is_kind, line_at}, KindRules.{is_violated}}
use Rattle.oil_model.proofs.Marked.{marks, leaves, passes_over, all_marked}
use Rattle.oil_model.proofs.kind_rules.least_marked.Goals as goal
use Rattle.oil_model.proofs.kind_rules.least_marked.Goals.{then-is_kind+then-is_violated, else-is_kind, else-is_kind-via-then-is_kind+else-is_violated, else-is_kind-via-else-is_kind}

pub loop-object-preserved : goal.loop-object-preserved
loop-object-preserved c =
    elim c.if-is_kind.branch [
      | then-is_kind+then-is_violated w ↦ marks (is_kind c.args.kind.now) (is_violated c.args.rule) (line_at c.args.attribute.now) c.args.objects.now c.loop-object.object-index c.loop-object.best c.loop-object.invariant c.object-item.result c.loop-object-test.true c.object-item.is (sym c.is_kind.ensures ∙ w.if-is_kind.true) (sym w.is_violated.ensures ∙ w.if-is_violated.true) (w.best-is ∙ w.sooner-best.ensures ∙ (λ i. sooner c.loop-object.best (Some (w.line_at.ensures i))))
      | else-is_kind w ↦
          elim w.else-is_kind.branch [
            | else-is_kind-via-then-is_kind+else-is_violated v ↦ leaves (is_kind c.args.kind.now) (is_violated c.args.rule) (line_at c.args.attribute.now) c.args.objects.now c.loop-object.object-index c.loop-object.best c.loop-object.invariant c.object-item.result c.loop-object-test.true c.object-item.is (sym c.is_kind.ensures ∙ v.if-is_kind.true) (sym v.is_violated.ensures ∙ v.if-is_violated.false) w.best-is
            | else-is_kind-via-else-is_kind v ↦ passes_over (is_kind c.args.kind.now) (is_violated c.args.rule) (line_at c.args.attribute.now) c.args.objects.now c.loop-object.object-index c.loop-object.best c.loop-object.invariant c.object-item.result c.loop-object-test.true c.object-item.is (sym c.is_kind.ensures ∙ v.if-is_kind.false) w.best-is
          ]
    ]

pub returns : goal.returns
returns c = all_marked (is_kind c.args.kind.now) (is_violated c.args.rule) (line_at c.args.attribute.now) c.args.objects.now c.loop-object.object-index c.loop-object.best c.loop-object.invariant c.loop-object-test.false
