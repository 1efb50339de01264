-- Loads by number: what a search among their keys says of them.
use Rattle.std.proofs.Common.{◌≡◌, ◌≢◌, ℕ, ◌^◌, ◌<◌, ◌≤◌, Bool, true, false, List, [], ◌∷◌, ◌++◌, length, get_or, cond, refl, sym, ap, subst, ◌∙◌, inl, inr, arith}
use Rattle.std.specs.{Prelude.{Option, Some, None, is_some, IfSome, IfNone, position, slice_get}, List.{list_any, IsDistinct}}
use Rattle.std.proofs.lemmas.{Bool.{cases_Bool, cases_lt}, List.{append-nil, get_or_default, length-append, Folds.{list_any_at}, Quantifiers.{position-Some}}, Map.Keys.{apart_from_distinct}, Option.{get_or_from_slice_get}}
use Rattle.indexmap.specs.IndexSet.{insert_key}
use Rattle.numbered_sets.specs.{declared.loads.Load.{Load}, LoadKeys.{same_load, load_itself, one_load}, Slots.{no_load, AreDistinct, IsLoadNumber, IsGrownBy, AreMoreLoads}}

-- keys of one load are equal
equal_keys : (a b : Load) → a ≡ b → same_load a b ≡ true
equal_keys a b same = subst (λ (x : Load). same_load a x ≡ true) same (load_itself a)

never_before : (loads : List Load) (j k : ℕ) → IsDistinct same_load loads → j < k → k < length loads → get_or loads j no_load ≡ get_or loads k no_load → ⊥
never_before loads j k distinct lt less e =
    let apart : same_load (get_or loads j no_load) (get_or loads k no_load) ≡ false = apart_from_distinct same_load loads j k no_load distinct lt less in
    let same : same_load (get_or loads j no_load) (get_or loads k no_load) ≡ true = equal_keys (get_or loads j no_load) (get_or loads k no_load) e in
    absurd (cc)

pub distinct_loads : (loads : List Load) → IsDistinct same_load loads → AreDistinct loads
distinct_loads loads distinct = record {
  each = λ j k known less e. elim (cases_lt j k) [
    | inl lt ↦ absurd (never_before loads j k distinct lt less e)
    | inr le ↦ elim (cases_lt k j) [
      | inl gt ↦ absurd (never_before loads k j distinct gt known (sym e))
      | inr ge ↦ omega (arith, le, ge)
    ]
  ];
}

load_numbered : (loads : List Load) (x : Load) (k : ℕ) (d : Load) → AreDistinct loads → k < length loads → get_or loads k d ≡ x → IsLoadNumber loads x k
load_numbered loads x k d distinct known is =
    let here : get_or loads k no_load ≡ x = get_or_default loads k no_load d known ∙ is in
    record { known = known; is = here; only = λ j lt e. distinct.each j k lt known (e ∙ sym here) }

-- the load at a place
pub load_numbered_at : (loads : List Load) (k : ℕ) (d : Load) → AreDistinct loads → k < length loads → IsLoadNumber loads (get_or loads k d) k
load_numbered_at loads k d distinct lt = load_numbered loads (get_or loads k d) k d distinct lt refl

pub stored_load : (loads : List Load) (x : Load) (n : ℕ) → AreDistinct loads → n < length loads → (k : Load) × (slice_get loads n ≡ Some k) × (same_load x k ≡ true) → IsLoadNumber loads x n
stored_load loads x n distinct lt stored =
    load_numbered loads x n no_load distinct lt (get_or_from_slice_get loads n stored.0 no_load stored.1 ∙ sym (one_load x stored.0 stored.2))

pub found_load : (loads : List Load) (x : Load) (found : Option ℕ) → AreDistinct loads → found ≡ position (same_load x) loads → IfSome found (IsLoadNumber loads x)
found_load loads x None distinct e = tt
found_load loads x (Some n) distinct e =
    let at = position-Some (same_load x) loads n no_load (sym e) in
    load_numbered loads x n no_load distinct at.0 (sym (one_load x (get_or loads n no_load) at.1))

pub absent_load : (loads : List Load) (x : Load) (found : Option ℕ) → is_some found ≡ list_any (same_load x) loads → IfNone found ((k : ℕ) → k < length loads → get_or loads k no_load ≢ x)
absent_load loads x (Some n) e = tt
absent_load loads x None e = λ k lt at.
    let there : list_any (same_load x) loads ≡ true = list_any_at (same_load x) loads k no_load lt (equal_keys x (get_or loads k no_load) (sym at)) in
    absurd (cc)

-- ---- a load more

pub loads_grown : (loads after : List Load) (x : Load) → after ≡ insert_key same_load loads x → IsGrownBy x loads after
loads_grown loads after x e = elim (cases_Bool (list_any (same_load x) loads)) [
  | inl there ↦ inl (e ∙ ap (λ (b : Bool). cond b loads (loads ++ x ∷ [])) there)
  | inr none ↦ inr (e ∙ ap (λ (b : Bool). cond b loads (loads ++ x ∷ [])) none)
]

pub few_known : (loads : List Load) (x : Load) (found : Option ℕ) → length loads ≤ 2 ^ 32 → IfSome found (IsLoadNumber loads x) → IfSome found (λ k. k < 2 ^ 32)
few_known loads x None few number = tt
few_known loads x (Some k) few number = omega (arith, few, number.known)

pub few_grown : (loads after : List Load) (x : Load) → length loads < 2 ^ 32 → IsGrownBy x loads after → length after ≤ 2 ^ 32
few_grown loads after x few (inl same) = omega (arith, few, ap length same)
few_grown loads after x few (inr more) = omega (arith, few, ap length more, length-append loads (x ∷ []))

pub more_by_one : (loads after : List Load) (x : Load) → IsGrownBy x loads after → AreMoreLoads loads after
more_by_one loads after x (inl same) = record { more = []; is = same ∙ sym (append-nil loads) }
more_by_one loads after x (inr more) = record { more = x ∷ []; is = more }
