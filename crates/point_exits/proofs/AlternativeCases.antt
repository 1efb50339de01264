-- The cases of an effect, with those that differ in one condition alone.
use Rattle.std.proofs.Common.{◌≡◌, ◌<◌, List, sym, subst, arith, Some, None}
use Rattle.std.specs.{Prelude.{Contains}, declared.option.Option.{Option}}
use Rattle.std.proofs.lemmas.List.Elements.{Contains-append_left, Contains-append_right}
use Rattle.osek_standard.specs.declared.{app.App.{App}, point.Point.{Point}}
use Rattle.abstract_state.specs.declared.{value.{Domain.{Domain}}, table.PlainEntry.{PlainEntry}}
use Rattle.abstract_state.specs.{Components.{component_count}, Domains.{IsWithin, domains, domains_of}}
use Rattle.abstract_state.proofs.DomainValues.{allowed_within}
use Rattle.flow_model.specs.{declared.case.EffectCase.{EffectCase}, Effects.{AreAllAllowed}}
use Rattle.flow_effects.specs.declared.effects.Alternatives.{Alternatives}
use Rattle.flow_effects.specs.Alternatives.{alternative_cases, with_alternatives}
use Rattle.point_exits.specs.Alternatives.{HasOwnValues}
use Rattle.point_exits.proofs.KeptDomains.{size, its_domain}

-- a case is one of all
pub case_listed : (cases : List EffectCase) (o : Option Alternatives) (x : EffectCase) → Contains cases x → Contains (with_alternatives cases o) x
case_listed cases None x m = m
case_listed cases (Some a) x m = Contains-append_left cases (alternative_cases a) x m

-- so is one that differs in one condition alone
pub alternative_listed : (cases : List EffectCase) (o : Option Alternatives) (a : Alternatives) (x : EffectCase) → o ≡ Some a → Contains (alternative_cases a) x → Contains (with_alternatives cases o) x
alternative_listed cases o a x is m = subst (λ (s : Option Alternatives). Contains (with_alternatives cases s) x) (sym is) (Contains-append_right cases (alternative_cases a) x m)

-- allowed values are of their components' domains
pub own_values : (app : App) (p : Point) (entry : PlainEntry) → domains entry ≡ domains_of app → AreAllAllowed app p entry → HasOwnValues entry
own_values app p entry alike allowed c v lt m =
    let known : c < component_count app = omega (arith, lt, size app entry alike) in
    subst (λ (d : Domain). IsWithin d v) (sym (its_domain app entry alike c known)) (allowed_within app p c v known (allowed c v known m))
