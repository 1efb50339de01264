use Rattle.std.proofs.Common.{ℕ, ◌∙◌, List, [], ◌∷◌, ◌++◌, ap}
use Rattle.abstract_state.specs.declared.value.PartValue.TheVariants.{OfSource}
use Rattle.abstract_state.specs.declared.value.SourceVal.TheVariants as source_val
use Rattle.flow_model.specs.Cases.{condition}
use Rattle.flow_model.specs.declared.test.Condition.{Condition}
use Rattle.flow_model.specs.declared.test.Test.TheVariants as test
use Rattle.flow_effects.specs.Returns.{are_out, before}
use Rattle.flow_effects.proofs.returns.goes_first.Goals as goal

pub returns : goal.returns
returns c =
    let app = c.args.app.now in
    c.in_ok-add_before_out.ensures
    ∙ ap (λ (xs : List Condition). xs ++ are_out app (before app c.args.ending.now.source c.args.next.0))
    (c.in_ok-push.ensures.ok
    ∙ ap (λ (xs : List Condition). xs ++ condition c.counted.result.0 (test.IsNot (OfSource source_val.Out)) ∷ []) (c.of-conditions.ensures ∙ c.in_ok-with_capacity.ensures.items)
    ∙ ap (λ (n : ℕ). condition n (test.IsNot (OfSource source_val.Out)) ∷ []) c.counted.ensures)
