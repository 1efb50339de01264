-- The numbers of what becomes of values, one number of a set after another.
use Rattle.std.proofs.Common.{◌≡◌, ℕ, ◌+◌, ◌^◌, ◌<◌, ◌≤◌, false, List, length, get_or, set, refl, sym, ap, subst, ◌∙◌, inl, inr, arith, IsTrue, ◌||◌, Bool, true, get_or-set_same, get_or-set_other}
use Rattle.std.proofs.{Math.ListN.{get_or-map}, lemmas.{Bool.{cases_eq, cases_lt, or_cases, eqb-true, eq-eqb}, List.{length-append, map-set, set-get_or, get_or_append_left, get_or_default}}}
use Rattle.bit_words.proofs.BitCounts.{has_either, has_one}
use Rattle.osek_values.specs.Bits.{has_bit}
use Rattle.abstract_state.specs.declared.value.PartValue.{PartValue, TheVariants.{OfEvent}}
use Rattle.abstract_state.specs.declared.value.Domain.TheVariants as domain
use Rattle.numbered_sets.specs.{Numbers.{Numbers, numbers, has_number, with_number}, Made.{AreMade}}
use Rattle.numbered_sets.specs.Pools.{Values, no_values, values_at, domain_at, pool_domains, IsNumberOf, IsExtended, IsLonger}
use Rattle.numbered_sets.proofs.{KnownNumbers.{no_bit_of_none}, ViewLaws.{extended_by_none}}

-- a number stays that of its value as more come in
pub number_stays : (vs ws : List PartValue) (v : PartValue) (n : ℕ) → IsExtended vs ws → IsNumberOf vs v n → IsNumberOf ws v n
number_stays vs ws v n longer is = record {
  known = omega (arith, is.known, ap length longer.is, length-append vs longer.more);
  is = λ d. ap (λ (us : List PartValue). get_or us n d) longer.is ∙ get_or_append_left vs longer.more d n is.known ∙ is.is d;
}

pub number_was : (vs ws : List PartValue) (v : PartValue) (n : ℕ) → IsExtended vs ws → n < length vs → IsNumberOf ws v n → IsNumberOf vs v n
number_was vs ws v n longer known is = record {
  known = known;
  is = λ d. sym (ap (λ (us : List PartValue). get_or us n d) longer.is ∙ get_or_append_left vs longer.more d n known) ∙ is.is d;
}

pub value_there : (vs : List PartValue) (n : ℕ) → n < length vs → (v : PartValue) × IsNumberOf vs v n
value_there vs n lt = (get_or vs n (OfEvent false), record { known = lt; is = λ d. get_or_default vs n d (OfEvent false) lt })

pub one_value : (vs : List PartValue) (v w : PartValue) (n : ℕ) → IsNumberOf vs v n → IsNumberOf vs w n → v ≡ w
one_value vs v w n h k = sym (h.is v) ∙ k.is v

module _ (becomes : PartValue → PartValue) where
  pub none_made : (vs : List PartValue) (old new : Numbers) → new ≡ numbers old.domain 0 → AreMade becomes vs old 0 new
  none_made vs old new is = subst (AreMade becomes vs old 0) (sym is) (record {
    domain = refl;
    to = λ n v lt has at. absurd (omega (arith, lt));
    from = λ m has. absurd (no_bit_of_none m has);
  })

  -- past numbers that aren't there
  pub made_on : (vs : List PartValue) (old new : Numbers) (k j : ℕ) → k ≤ j → ((n : ℕ) → k ≤ n → n < j → has_number old n ≡ false) → AreMade becomes vs old k new → AreMade becomes vs old j new
  made_on vs old new k j le none h = record {
    domain = h.domain;
    to = λ n v lt has at. elim (cases_lt n k) [
      | inl before ↦ h.to n v before has at
      | inr past ↦ (let no = none n past lt in absurd (cc))
    ];
    from = λ m has. (let x = h.from m has in record { number = x.number; value = x.value; below = omega (arith, x.below, le); there = x.there; was = x.was; is = x.is });
  }

  -- one number more
  pub made_more : (vs : List PartValue) (old new : Numbers) (n m : ℕ) → n < length vs → IsTrue (has_number old n) → ((v : PartValue) → IsNumberOf vs v n → IsNumberOf vs (becomes v) m)
      → AreMade becomes vs old n new → AreMade becomes vs old (n + 1) (with_number new m)
  made_more vs old new n m known there its h = record {
    domain = h.domain;
    to = λ i v lt has at. elim (cases_lt i n) [
      | inl before ↦ (let x = h.to i v before has at in (x.0, x.1, has_either new.bits (2 ^ m) x.0 ∙ ap (λ (b : Bool). b || has_bit (2 ^ m) x.0) x.2))
      | inr past ↦
          (let same : i ≡ n = omega (arith, lt, past) in
          (m, its v (subst (IsNumberOf vs v) same at), has_either new.bits (2 ^ m) m ∙ ap (λ (b : Bool). has_bit new.bits m || b) (has_itself m) ∙ or_true (has_bit new.bits m)))
    ];
    from = λ j has. elim (or_cases (has_bit new.bits j) (has_bit (2 ^ m) j) (sym (has_either new.bits (2 ^ m) j) ∙ has)) [
      | inl before ↦ (let x = h.from j before in record { number = x.number; value = x.value; below = omega (arith, x.below); there = x.there; was = x.was; is = x.is })
      | inr one ↦
          (let same : m ≡ j = sym (eqb-true j m (sym (has_one m j) ∙ one)) in
          let v = value_there vs n known in
          record { number = n; value = v.0; below = omega arith; there = there; was = v.1; is = subst (IsNumberOf vs (becomes v.0)) same (its v.0 v.1) })
    ];
  }
    where
      has_itself : (i : ℕ) → has_bit (2 ^ i) i ≡ true
      has_itself i = has_one i i ∙ eq-eqb i i refl

      or_true : (b : Bool) → (b || true) ≡ true
      or_true true = refl
      or_true false = refl

  -- as more values come in
  pub made_grown : (vs ws : List PartValue) (old new : Numbers) (k : ℕ) → IsExtended vs ws → ((n : ℕ) → IsTrue (has_number old n) → n < length vs) → AreMade becomes vs old k new → AreMade becomes ws old k new
  made_grown vs ws old new k longer known h = record {
    domain = h.domain;
    to = λ n v lt has at. (let x = h.to n v lt has (number_was vs ws v n longer (known n has) at) in (x.0, number_stays vs ws (becomes v) x.0 longer x.1, x.2));
    from = λ m has.
        (let x = h.from m has in
        record { number = x.number; value = x.value; below = x.below; there = x.there; was = number_stays vs ws x.value x.number longer x.was; is = number_stays vs ws (becomes x.value) m longer x.is });
  }

  -- past all numbers
  pub made_whole : (vs : List PartValue) (old new : Numbers) (k j : ℕ) → k ≤ j → ((n : ℕ) → IsTrue (has_number old n) → n < k) → AreMade becomes vs old j new → AreMade becomes vs old k new
  made_whole vs old new k j le known h = record {
    domain = h.domain;
    to = λ n v lt has at. h.to n v (omega (arith, lt, le)) has at;
    from = λ m has. (let x = h.from m has in record { number = x.number; value = x.value; below = known x.number x.there; there = x.there; was = x.was; is = x.is });
  }

-- one component has other values, which are more
pub longer_at : (pool : List Values) (c : ℕ) (x : Values) → c < length pool → x.domain ≡ domain_at pool c → IsExtended (values_at pool c) x.values → IsLonger pool (set pool c x)
longer_at pool c x lt alike grown = record {
  domains =
      map-set (λ (y : Values). y.domain) pool c x
      ∙ ap (set (pool_domains pool) c) (alike ∙ sym (get_or-map (λ (y : Values). y.domain) pool c (no_values domain.Alarm)))
      ∙ set-get_or (pool_domains pool) c domain.Alarm;
  values = λ k. elim (cases_eq k c) [
    | inl same ↦
        subst (λ (j : ℕ). IsExtended (values_at pool j) (values_at (set pool c x) j)) (sym same)
        (subst (λ (y : Values). IsExtended (values_at pool c) y.values) (sym (get_or-set_same pool c x (no_values domain.Alarm) lt)) grown)
    | inr differ ↦ subst (λ (y : Values). IsExtended (values_at pool k) y.values) (sym (get_or-set_other pool c k x (no_values domain.Alarm) differ)) (extended_by_none (values_at pool k))
  ];
}
