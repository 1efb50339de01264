use Rattle.std.proofs.Common.{◌≡◌, ◌∙◌, sym, subst}
use Rattle.std.specs.{Prelude.{IfSome}, declared.option.Option.{Option}}
use Rattle.flow_effects.specs.declared.waiting.Wait.{Wait}
use Rattle.flow_effects.specs.Alternatives.{wait_effects}
use Rattle.flow_effects.proofs.KeptConditions.{kept_conditions}
use Rattle.flow_effects.proofs.known_waits.KnownWaits.keep.Goals as goal

pub returns : goal.returns
returns c = λ app known theirs.
    let w = c.in-Some.wait in
    let e : c.args.effects.now ≡ wait_effects app w = subst (λ (o : Option Wait). IfSome o (λ x. c.args.effects.now ≡ wait_effects app x)) c.in-Some.is theirs in
    c.put.ensures app known (kept_conditions app w c.args.effects.now c.at_mut-case.result.now c.in-Some-take.alternatives c.replace-waits.result e c.at_mut-case.ensures.item c.replace-waits.ensures.value (sym c.take.ensures.value ∙ c.in-Some-take.is))
