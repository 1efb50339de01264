-- What exact rules make of allowed values lies in the components' domains.
use Rattle.std.proofs.Common.{◌≡◌, ℕ, ◌<◌, false, List, length, get_or, refl, sym, ap, subst, ◌∙◌, inl, inr, arith, IsTrue}
use Rattle.std.specs.Prelude.{Contains}
use Rattle.std.proofs.{Math.ListN.{get_or-map}, lemmas.{Bool.{cases_eq, cases_lt}, List.{length-map, get_or_default}}}
use Rattle.osek_values.specs.Numbers.{alarm_no}
use Rattle.osek_standard.specs.{declared.{app.App.{App}, point.Point.{Point}}, Kernel.{step}, Well.{Well}}
use Rattle.osek_standard.proofs.StepKeeps.{step_keeps}
use Rattle.abstract_state.specs.declared.value.{Domain.{Domain}, PartValue.{PartValue, TheVariants.{OfAlarm}}}
use Rattle.abstract_state.specs.declared.value.Component.TheVariants as component
use Rattle.abstract_state.specs.{declared.table.{ValueSet.{ValueSet}, PlainEntry.{PlainEntry}}, Components.{components, component_at, component_count, abstract_of}}
use Rattle.abstract_state.specs.{Domains.{IsWithin, domains, domain_of, domains_of}, Tables.{empty_set, set_at, is_member}}
use Rattle.osek_standard.proofs.InsideLaws.{step_inside}
use Rattle.abstract_state.proofs.DomainValues.{named_within}
use Rattle.flow_model.specs.{declared.rule.Rule.{Rule}, Tests.{PassesAt, value_after}, Rules.{Exact, Shown}}
use Rattle.point_exits.specs.{Passing.{StaysInDomains, AreTaken}, Applying.{KeepsDomains}}

module _ (app : App) (entry : PlainEntry) (alike : domains entry ≡ domains_of app) where
  pub size : length entry.sets ≡ component_count app
  size = sym (length-map entry.sets (λ (s : ValueSet). s.domain)) ∙ ap length alike ∙ length-map (components app) (domain_of app)

  pub its_domain : (c : ℕ) → c < component_count app → (set_at entry c).domain ≡ domain_of app (component_at app c)
  its_domain c lt =
      sym (get_or-map (λ (s : ValueSet). s.domain) entry.sets c empty_set)
      ∙ get_or_default (domains entry) c empty_set.domain (domain_of app (component.Alarm (alarm_no 0))) (omega (arith, lt, size, length-map entry.sets (λ (s : ValueSet). s.domain)))
      ∙ ap (λ (ds : List Domain). get_or ds c (domain_of app (component.Alarm (alarm_no 0)))) alike
      ∙ get_or-map (domain_of app) (components app) c (component.Alarm (alarm_no 0))

module _ (app : App) (entry : PlainEntry) (rule : Rule) (alike : domains entry ≡ domains_of app) (taken : AreTaken rule entry) where
  -- a value of each set that passes, a given one at component c
  record Pick (c : ℕ) (was : PartValue) (k : ℕ) : Type 0 where
    pick : PartValue
    there : k < component_count app → IsTrue (is_member (set_at entry k) pick)
    passes : k < component_count app → PassesAt rule.conditions k pick
    chosen : k ≡ c → pick ≡ was

  module _ (c : ℕ) (was : PartValue) (known : c < component_count app) (there : IsTrue (is_member (set_at entry c) was)) (passes : PassesAt rule.conditions c was) where
    picked : (k : ℕ) → Pick c was k
    picked k = elim (cases_eq k c) [
      | inl same ↦ record {
        pick = was;
        there = λ lt. subst (λ (i : ℕ). IsTrue (is_member (set_at entry i) was)) (sym same) there;
        passes = λ lt. subst (λ (i : ℕ). PassesAt rule.conditions i was) (sym same) passes;
        chosen = λ e. refl;
      }
      | inr other ↦ elim (cases_lt k (component_count app)) [
        | inl below ↦ (let t = taken k (omega (arith, below, size app entry alike)) in record { pick = t.was; there = λ lt. t.there; passes = λ lt. t.passes; chosen = λ e. absurd (other e) })
        | inr above ↦ record { pick = OfAlarm false; there = λ lt. absurd (omega (arith, lt, above)); passes = λ lt. absurd (omega (arith, lt, above)); chosen = λ e. absurd (other e) }
      ]
    ]

    -- by the domains of the components
    by_domains : StaysInDomains app entry rule → IsWithin (set_at entry c).domain (value_after rule.changes c was)
    by_domains stays =
        let within = stays (λ k. (picked k).pick) (λ k lt. (picked k).there lt) (λ k lt. (picked k).passes lt) c known in
        subst (λ (d : Domain). IsWithin d (value_after rule.changes c was)) (sym (its_domain app entry alike c known))
        (subst (λ (v : PartValue). IsWithin (domain_of app (component_at app c)) (value_after rule.changes c v)) ((picked c).chosen refl) within)

    -- by what is exact
    module _ (p : Point) (rules : List Rule) (listed : Contains rules rule) (exact : Exact app p entry rules) where
      shown : Shown app p rule (λ k. (picked k).pick)
      shown = exact rule (λ k. (picked k).pick) listed (λ k lt. (picked k).there lt) (λ k lt. (picked k).passes lt)

      made_within : IsWithin (set_at entry c).domain (value_after rule.changes c was)
      made_within =
          let after = (step app shown.from shown.event).state in
          let well : Well app after = step_keeps app shown.from shown.event shown.has.well in
          let made : abstract_of app after c ≡ value_after rule.changes c was = shown.matches.parts c known ∙ ap (value_after rule.changes c) (shown.has.parts c known ∙ (picked c).chosen refl) in
          subst (λ (d : Domain). IsWithin d (value_after rule.changes c was)) (sym (its_domain app entry alike c known))
          (subst (IsWithin (domain_of app (component_at app c))) made (named_within app after well (step_inside app shown.from shown.event shown.has.well shown.has.regular.inside).named c known))

pub exact_keep : (app : App) (p : Point) (entry : PlainEntry) (rules : List Rule) (rule : Rule) → domains entry ≡ domains_of app → Contains rules rule → Exact app p entry rules → KeepsDomains rule entry
exact_keep app p entry rules rule alike listed exact = record {
  sets = λ taken c lt. record {
    each = λ v there passes. made_within app entry rule alike taken c v (let long = size app entry alike in omega (arith, lt, long)) there passes p rules listed exact;
  };
}

-- so it is of a rule that several share
pub shared_keep : (app : App) (entry : PlainEntry) (rule : Rule) → domains entry ≡ domains_of app → StaysInDomains app entry rule → KeepsDomains rule entry
shared_keep app entry rule alike stays = record {
  sets = λ taken c lt. record {
    each = λ v there passes. by_domains app entry rule alike taken c v (let long = size app entry alike in omega (arith, lt, long)) there passes stays;
  };
}
