use Rattle.std.proofs.Common.{◌∙◌, ap, [], ◌∷◌, ◌++◌}
use Rattle.flow_model.specs.declared.test.Condition.{Condition}
use Rattle.flow_effects.specs.Conditions.{of_source}
use Rattle.flow_effects.proofs.ListLaws.{grown}
use Rattle.flow_effects.proofs.routine_resources.add_of_sources.Goals as goal

pub loop-source-preserved : goal.loop-source-preserved
loop-source-preserved c =
    let app = c.args.app.now in
    let k = c.loop-source.source in
    grown (λ l. of_source app l c.args.test.now) c.args.conditions.now c.loop-source.conditions c.push.new.self k c.loop-source.invariant
    (c.in_ok-push.ensures.ok ∙ ap (λ (x : Condition). c.loop-source.conditions ++ x ∷ []) (c.of_source.ensures ∙ ap (of_source app k) c.in_ok-test.ensures))
