use Rattle.std.proofs.Common.{◌≡◌, ◌↔◌, ◌∙◌, true, false, sym, ap, IsTrue, not}
use Rattle.osek_values.specs.declared.numbers.BlockNo.{BlockNo}
use Rattle.osek_standard.specs.Well.{IsWaitingAt}
use Rattle.table_codec.proofs.ShapeLaws.{elsewhere_is, running_is}
use Rattle.table_codec.proofs.shape.Shape.of.Goals as goal
use Rattle.table_codec.proofs.shape.Shape.of.Goals.{then-is_free, else-is_free}

pub returns-in-Some-clause-shape : goal.returns-in-Some-clause-shape
returns-in-Some-clause-shape c =
    running_is c.args.app.now c.args.task c.requires c.args.point c.in-Some.block c.task-owner.result.now c.is_some-named.result c.task-owner.ensures c.is_some-named.ensures c.in-Some.ensures.runs

pub returns-after-is_free-clause-shape : goal.returns-after-is_free-clause-shape
returns-after-is_free-clause-shape c =
    let waits : IsTrue c.if-is_free.result ↔ (IsTrue (not c.is_interrupted-is_free.result) × ((b : BlockNo) × IsWaitingAt c.args.app.now c.args.task.0 b.0)) = elim c.if-is_free.branch [
      | then-is_free w ↦ (λ e. (ap not w.if-is_free.true, w.may_wait.ensures.0 (sym w.result-is ∙ e)), λ h. w.result-is ∙ w.may_wait.ensures.1 h.1)
      | else-is_free w ↦ (λ e. absurd (let wrong : false ≡ true = sym (ap not w.if-is_free.false) ∙ sym w.result-is ∙ e in cc), λ h. absurd (let wrong : false ≡ true = sym (ap not w.if-is_free.false) ∙ h.0 in cc))
    ] in
    elsewhere_is c.args.app.now c.args.task c.requires c.args.point c.is_interrupted-is_free.result c.if-is_free.result c.task-owner.result.now c.is_some-named.result c.is_interrupted-is_free.ensures c.task-owner.ensures
    c.is_some-named.ensures c.in-None.ensures.none waits
