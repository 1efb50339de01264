use Rattle.std.proofs.Common.{◌∙◌, sym}
use Rattle.abstract_state.specs.declared.value.PartValue.TheVariants.{OfSource}
use Rattle.abstract_state.specs.declared.value.SourceVal.TheVariants as source_val
use Rattle.flow_model.specs.declared.test.Test.TheVariants as test
use Rattle.flow_services.proofs.ListLaws.{passed_after, failed_after}
use Rattle.flow_effects.specs.{Conditions.{of_source}, Returns.{is_before}}
use Rattle.flow_effects.proofs.returns.add_before_out.Goals as goal
use Rattle.flow_effects.proofs.returns.add_before_out.Goals.{then-is_before+in_ok-add_out, else-is_before}

pub loop-source-preserved : goal.loop-source-preserved
loop-source-preserved c =
    let app = c.args.app.now in
    let k = c.loop-source.source in
    elim c.if-is_before.branch [
      | then-is_before+in_ok-add_out w ↦
          w.conditions-is ∙ w.in_ok-add_out.ensures
          ∙ passed_after c.args.conditions.now c.loop-source.conditions (is_before app c.args.ending c.args.next.0) (λ l. of_source app l (test.Is (OfSource source_val.Out))) k c.loop-source.invariant (sym c.is_before.ensures ∙ w.if-is_before.true)
      | else-is_before w ↦
          w.conditions-is
          ∙ failed_after c.args.conditions.now c.loop-source.conditions (is_before app c.args.ending c.args.next.0) (λ l. of_source app l (test.Is (OfSource source_val.Out))) k c.loop-source.invariant (sym c.is_before.ensures ∙ w.if-is_before.false)
    ]
