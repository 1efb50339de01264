-- What an exact effect makes of the values of an entry lies in their domains.
use Rattle.std.proofs.Common.{◌≡◌, List, ap, subst, ◌∙◌}
use Rattle.std.specs.Prelude.{Contains}
use Rattle.osek_standard.specs.{declared.{app.App.{App}, state.State.{State}, point.Point.{Point}}, Effects.{effect}, Well.{Well}}
use Rattle.osek_standard.proofs.{EffectKeeps.{effect_keeps}, FlagLaws.{effect_flags}, InsideLaws.{IsNamed}}
use Rattle.abstract_state.specs.{declared.table.PlainEntry.{PlainEntry}, Components.{component_at, abstract_of}, Domains.{IsWithin, domain_of, domains, domains_of}}
use Rattle.abstract_state.proofs.DomainValues.{named_within}
use Rattle.flow_model.specs.{declared.case.EffectCase.{EffectCase}, Tests.{value_after}, Effects.{AreExactEffects}}
use Rattle.flow_exits.specs.Leaving.{effect_rule}
use Rattle.point_exits.specs.{Passing.{StaysInDomains}, Applying.{KeepsDomains}}
use Rattle.point_exits.proofs.KeptDomains.{shared_keep}

-- the effect of a well-formed state leaves well-formed parts
effect_stays : (app : App) (p : Point) (entry : PlainEntry) (effects : List EffectCase) (x : EffectCase) → Contains effects x → AreExactEffects app p entry effects → StaysInDomains app entry (effect_rule x)
effect_stays app p entry effects x listed exact value within passes c lt =
    let shown = exact x value 0 listed within passes in
    let s = shown.from in
    let then : State = (effect app s shown.choice).state in
    let well : Well app then = effect_keeps app s shown.has.well shown.choice in
    let made : abstract_of app then c ≡ value_after x.changes c (value c) = shown.effect.parts c lt ∙ ap (value_after x.changes c) (shown.has.parts c lt) in
    let named : IsNamed app then = λ t e. shown.has.regular.inside.named t ((effect_flags app s shown.choice).lower t e) in
    subst (IsWithin (domain_of app (component_at app c))) made (named_within app then well named c lt)

pub effect_keeps_domains : (app : App) (p : Point) (entry : PlainEntry) (effects : List EffectCase) (x : EffectCase) → domains entry ≡ domains_of app → Contains effects x → AreExactEffects app p entry effects → KeepsDomains (effect_rule x) entry
effect_keeps_domains app p entry effects x alike listed exact = shared_keep app entry (effect_rule x) alike (effect_stays app p entry effects x listed exact)
