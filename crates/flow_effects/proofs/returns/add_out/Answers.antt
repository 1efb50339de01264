use Rattle.std.proofs.Common.{ℕ, ◌∙◌, [], ◌∷◌, ◌++◌, ap}
use Rattle.abstract_state.specs.declared.value.PartValue.TheVariants.{OfSource}
use Rattle.abstract_state.specs.declared.value.SourceVal.TheVariants as source_val
use Rattle.flow_model.specs.Cases.{condition}
use Rattle.flow_model.specs.declared.test.Test.TheVariants as test
use Rattle.flow_effects.proofs.returns.add_out.Goals as goal

pub returns : goal.returns
returns c = c.in_ok-push.ensures.ok ∙ ap (λ (n : ℕ). c.args.conditions.now ++ condition n (test.Is (OfSource source_val.Out)) ∷ []) c.counted.ensures
