use Rattle.std.proofs.Common.{◌∙◌, not, [], ap}
use Rattle.std.specs.Prelude.{◌==◌}
use Rattle.std.proofs.lemmas.Bool.{eq-eqb, ne_eqb}
use Rattle.abstract_state.specs.declared.value.PartValue.TheVariants.{OfSource}
use Rattle.abstract_state.specs.declared.value.SourceVal.TheVariants as source_val
use Rattle.flow_model.specs.declared.test.Test.TheVariants as test
use Rattle.flow_services.proofs.ListLaws.{passed_after, failed_after}
use Rattle.flow_effects.specs.Conditions.{of_source}
use Rattle.flow_effects.proofs.returns.others_out.Goals as goal
use Rattle.flow_effects.proofs.returns.others_out.Goals.{then-source-ending+in_ok-add_out, else-source-ending}

pub loop-source-preserved : goal.loop-source-preserved
loop-source-preserved c =
    let app = c.args.app.now in
    let k = c.loop-source.source in
    elim c.if-source-ending.branch [
      | then-source-ending+in_ok-add_out w ↦
          w.conditions-is ∙ w.in_ok-add_out.ensures
          ∙ passed_after [] c.loop-source.conditions (λ l. not (l == c.args.ending.0)) (λ l. of_source app l (test.Is (OfSource source_val.Out))) k c.loop-source.invariant (ap not (ne_eqb k c.args.ending.0 w.if-source-ending.true))
      | else-source-ending w ↦
          w.conditions-is
          ∙ failed_after [] c.loop-source.conditions (λ l. not (l == c.args.ending.0)) (λ l. of_source app l (test.Is (OfSource source_val.Out))) k c.loop-source.invariant (ap not (eq-eqb k c.args.ending.0 w.if-source-ending.false))
    ]
