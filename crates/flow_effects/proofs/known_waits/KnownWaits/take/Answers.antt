use Rattle.std.proofs.Common.{◌≡◌, ℕ, sym, subst}
use Rattle.std.specs.{Prelude.{IfSome}, declared.option.Option.{Option}}
use Rattle.flow_effects.specs.declared.waiting.WaitConditions.{WaitConditions}
use Rattle.flow_effects.specs.{Alternatives.{wait_conditions}, KnownWaits.{IsPlaceOf}}
use Rattle.flow_effects.proofs.KeptConditions.{taken_at}
use Rattle.flow_effects.proofs.known_waits.KnownWaits.take.Goals as goal

pub returns-in-Some-clause-conditions : goal.returns-in-Some-clause-conditions
returns-in-Some-clause-conditions c = λ app known.
    let w = c.args.wait in
    let at = subst (λ (o : Option ℕ). IfSome o (IsPlaceOf w c.args.self.now.known)) c.in-Some.is c.place_of.ensures in
    subst (λ (o : Option WaitConditions). IfSome o (λ x. x ≡ wait_conditions app w.task w.mask)) (sym c.take.ensures.value)
    (taken_at app w c.args.self.now.known c.in-Some.place c.at_mut.result.now known at c.at_mut.ensures.item)
