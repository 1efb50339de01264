use Rattle.std.proofs.Common.{ℕ, ◌∙◌, ap, [], ◌∷◌, ◌++◌}
use Rattle.abstract_state.specs.declared.value.{PartValue.TheVariants.{OfSource}}
use Rattle.abstract_state.specs.declared.value.SourceVal.TheVariants as source_val
use Rattle.flow_model.specs.declared.change.Update.TheVariants as update
use Rattle.flow_model.specs.{Runners.{change}, Changes.{source_change}}
use Rattle.flow_effects.proofs.ListLaws.{grown}
use Rattle.flow_effects.proofs.moves.add_all_ended.Goals as goal

pub loop-source-preserved : goal.loop-source-preserved
loop-source-preserved c =
    grown (λ k. source_change c.args.app.now k source_val.Out) c.args.changes.now c.loop-source.changes c.push.new.self c.loop-source.source c.loop-source.invariant
    (c.in_ok-push.ensures.ok ∙ ap (λ (n : ℕ). c.loop-source.changes ++ change n (update.Set (OfSource source_val.Out)) ∷ []) c.component_number.ensures)
