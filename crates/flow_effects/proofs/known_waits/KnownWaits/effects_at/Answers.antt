-- a WaitEvent has its effects
use Rattle.std.proofs.Common.{◌≡◌, Bool, List, sym, subst}
use Rattle.std.specs.{Prelude.{IfOk, IfSome}, declared.{option.Option.{Option}, result.Result.{Result}}}
use Rattle.std.proofs.lemmas.Result.{IfOk-weaker}
use Rattle.osek_values.specs.declared.memory.Memory.{Memory}
use Rattle.osek_standard.specs.declared.{app.App.{App}, point.Point.{Point}}
use Rattle.abstract_state.specs.{declared.table.PlainEntry.{PlainEntry}, Domains.{domains, domains_of, HasMasks}}
use Rattle.flow_model.specs.Effects.{AreAllAllowed, CoverEffects, AreExactEffects, HaveKnownStays, AreCasesOf}
use Rattle.flow_effects.specs.declared.{effects.Effects.{Effects}, waiting.Wait.{Wait}}
use Rattle.flow_effects.specs.{Outs.{AreOutIn}, Alternatives.{all_cases, AreApart, IsWaitAt, wait_effects}}
use Rattle.flow_effects.proofs.WaitEffects.{wait_covered, wait_apart}
use Rattle.flow_effects.proofs.known_waits.KnownWaits.effects_at.Goals as goal

module _ (app : App) (outs : List Bool) (p : Point) (w : Wait) (is : IsWaitAt app p w) (few : HasMasks app) (result : Result Effects Memory) (same : IfOk result (λ x. x ≡ wait_effects app w)) where
  cases : IfOk result (λ x. AreCasesOf app p (all_cases x))
  cases = IfOk-weaker result (λ x. x ≡ wait_effects app w) _ (λ x e. subst (λ (y : Effects). AreCasesOf app p (all_cases y)) (sym e) (wait_covered app w p is few)) same

  covering : IfOk result (λ x. (entry : PlainEntry) → domains entry ≡ domains_of app → AreOutIn app outs entry → CoverEffects app p entry (all_cases x))
  covering = IfOk-weaker result (λ x. AreCasesOf app p (all_cases x)) _ (λ x h entry alike out. h.covering entry) cases

  exact : IfOk result (λ x. (entry : PlainEntry) → domains entry ≡ domains_of app → AreAllAllowed app p entry → AreExactEffects app p entry (all_cases x))
  exact = IfOk-weaker result (λ x. AreCasesOf app p (all_cases x)) _ (λ x h entry alike. h.exact entry) cases

  stays : IfOk result (λ x. HaveKnownStays app (all_cases x))
  stays = IfOk-weaker result (λ x. AreCasesOf app p (all_cases x)) _ (λ x h. h.stays) cases

  apart : IfOk result (λ x. IfSome x.alternatives (AreApart app))
  apart = IfOk-weaker result (λ x. x ≡ wait_effects app w) _ (λ x e. subst (λ (y : Effects). IfSome y.alternatives (AreApart app)) (sym e) (wait_apart app w p is)) same

pub returns-in-Some-clause-covering : goal.returns-in-Some-clause-covering
returns-in-Some-clause-covering c =
    let is = subst (λ (o : Option Wait). IfSome o (IsWaitAt c.args.app.now c.args.point)) c.in-Some.is c.at.ensures in
    covering c.args.app.now c.args.outs.now c.args.point c.in-Some.wait is c.masks_are_few.ensures c.of_wait.result c.of_wait.ensures.effects

pub returns-in-Some-clause-exact : goal.returns-in-Some-clause-exact
returns-in-Some-clause-exact c =
    let is = subst (λ (o : Option Wait). IfSome o (IsWaitAt c.args.app.now c.args.point)) c.in-Some.is c.at.ensures in
    exact c.args.app.now c.args.outs.now c.args.point c.in-Some.wait is c.masks_are_few.ensures c.of_wait.result c.of_wait.ensures.effects

pub returns-in-Some-clause-stays : goal.returns-in-Some-clause-stays
returns-in-Some-clause-stays c =
    let is = subst (λ (o : Option Wait). IfSome o (IsWaitAt c.args.app.now c.args.point)) c.in-Some.is c.at.ensures in
    stays c.args.app.now c.args.outs.now c.args.point c.in-Some.wait is c.masks_are_few.ensures c.of_wait.result c.of_wait.ensures.effects

pub returns-in-Some-clause-apart : goal.returns-in-Some-clause-apart
returns-in-Some-clause-apart c =
    let is = subst (λ (o : Option Wait). IfSome o (IsWaitAt c.args.app.now c.args.point)) c.in-Some.is c.at.ensures in
    apart c.args.app.now c.args.outs.now c.args.point c.in-Some.wait is c.masks_are_few.ensures c.of_wait.result c.of_wait.ensures.effects
