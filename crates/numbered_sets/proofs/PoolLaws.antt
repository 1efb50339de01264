-- The values of a pool: what comes in, and how many there can be.
use Rattle.std.proofs.Common.{◌≡◌, ℕ, ◌≤◌, Bool, true, List, [], ◌∷◌, ◌++◌, length, cond, sym, ap, subst, ◌∙◌, inl, inr, arith}
use Rattle.std.specs.{List.{list_any, IsDistinct}}
use Rattle.std.proofs.{lemmas.{Bool.{cases_Bool}, List.{Folds.{list_any_at}, Elements.{All-nil, All-cons, All-append, All-contains}}}}
use Rattle.std.proofs.lemmas.{Map.{Keys.{IsDistinct-push}, Made.{length-le_from_is_member}, Views.{Contains-from_any, list_any-from_Contains}}}
use Rattle.abstract_state.specs.{declared.value.{Domain.{Domain}, PartValue.{PartValue}}, ValueOrder.{same_part}, Domains.{IsWithin, domain_size}}
use Rattle.abstract_state.proofs.{DomainValues.{domain_counted}, OrderLaws.{part_itself, part_laws, part_right}}
use Rattle.numbered_sets.specs.Pools.{Values, value_seen, with_value, AreNumbered, IsNumberOf}

pub none_numbered : (d : Domain) → AreNumbered d []
unfolding IsDistinct
none_numbered d = record { distinct = tt; within = All-nil (IsWithin d) }

-- a value that has a number is no new one
pub seen_already : (x : Values) (v : PartValue) (n : ℕ) → IsNumberOf x.values v n → value_seen x v ≡ x
seen_already x v n number =
    let there : list_any (same_part v) x.values ≡ true = list_any_at (same_part v) x.values n v number.known (ap (same_part v) (number.is v) ∙ part_itself v) in
    ap (λ (b : Bool). with_values (cond b x.values (x.values ++ v ∷ []))) there
  where
    with_values : List PartValue → Values
    with_values vs = record { domain = x.domain; values = vs }

pub numbered_with : (d : Domain) (vs : List PartValue) (v : PartValue) → AreNumbered d vs → IsWithin d v → AreNumbered d (with_value vs v)
numbered_with d vs v numbered within = elim (cases_Bool (list_any (same_part v) vs)) [
  | inl there ↦ subst (λ (b : Bool). AreNumbered d (cond b vs (vs ++ v ∷ []))) (sym there) numbered
  | inr none ↦
      subst (λ (b : Bool). AreNumbered d (cond b vs (vs ++ v ∷ []))) (sym none)
      (record {
        distinct = IsDistinct-push part_laws vs v numbered.distinct none;
        within = All-append (IsWithin d) vs (v ∷ []) numbered.within (All-cons (IsWithin d) v [] within (All-nil (IsWithin d)));
      })
]

-- they are no more than the domain has
pub few_values : (d : Domain) (vs : List PartValue) → AreNumbered d vs → length vs ≤ domain_size d
few_values d vs numbered =
    let counted = domain_counted d in
    let few =
    length-le_from_is_member part_laws vs counted.values numbered.distinct
    (λ v h. list_any-from_Contains part_laws v counted.values ((counted.whole v).1 (All-contains (IsWithin d) vs v numbered.within (Contains-from_any part_right v vs h)))) in
    omega (arith, few, counted.count)
