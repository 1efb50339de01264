use Rattle.std.proofs.Common.{ℕ, ◌≤◌, ◌∙◌, sym, subst}
use Rattle.std.specs.Prelude.{codes}
use Rattle.oil_tree.specs.declared.tree.Object.{Object}
use Rattle.oil_model.specs.Objects.{is_kind, priority}
use Rattle.oil_model.proofs.{Clean.{at_passing}, Facts.{priorities}}
use Rattle.oil_model.proofs.resources.top_ceiling.Goals as goal

pub narrow-requires : goal.narrow-requires
narrow-requires c = subst (λ (p : ℕ). p ≤ 65535) (sym c.priority.ensures) (at_passing (λ (o : Object). priority o ≤ 65535) (is_kind (codes "TASK")) c.args.objects.now c.loop-object.object-index c.object-item.result (priorities c.args.objects.now c.requires) c.loop-object-test.true c.object-item.is (sym c.is_kind.ensures ∙ c.if-is_kind.true))
