use Rattle.std.proofs.{Common.{◌≡◌, sym, ap, subst, ◌∙◌}, lemmas.Option.{IfSome_then}}
use Rattle.abstract_state.specs.declared.value.PartValue.{PartValue}
use Rattle.flow_model.specs.Tests.{updated}
use Rattle.numbered_sets.specs.Pools.{IsNumberOf}
use Rattle.numbered_sets.proofs.seen_values.SeenValues.found_for.Goals as goal

pub returns : goal.returns
returns c =
    let vs = c.args.self.now.values in
    let becomes = updated c.args.update.now in
    IfSome_then c.number_of.result c.number_of.ensures.number (λ m is v number.
    let made : c.of-value.result ≡ becomes v = c.of-value.ensures ∙ ap becomes (sym (c.value.ensures.is v) ∙ number.is v) in
    subst (λ (w : PartValue). IsNumberOf vs w m) made is)
