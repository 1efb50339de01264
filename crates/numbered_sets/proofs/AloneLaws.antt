-- Tests for one value, by the set of its number.
use Rattle.std.proofs.Common.{◌≡◌, ℕ, ◌^◌, Bool, true, false, ◌||◌, ◌&&◌, List, get_or, refl, sym, ap, ap₂, ◌∙◌, inl, inr, IsTrue}
use Rattle.std.specs.{List.{list_any, IsDistinct}}
use Rattle.std.proofs.{lemmas.{Bool.{cases_Bool, cases_eq, eq-eqb, ne_eqb, and_parts}, List.{get_or_default, Folds.{list_any_at}}}}
use Rattle.bit_words.proofs.BitCounts.{has_either, has_one}
use Rattle.osek_values.specs.Bits.{has_bit}
use Rattle.abstract_state.specs.{declared.value.{Domain.{Domain}, PartValue.{PartValue}}, ValueOrder.{same_part}}
use Rattle.abstract_state.proofs.OrderLaws.{part_itself, part_right}
use Rattle.flow_model.specs.Tests.{passes}
use Rattle.flow_model.specs.declared.test.Test.TheVariants as test
use Rattle.numbered_sets.specs.{Passing.{IsNumberAlone, IsSifted}, Numbers.{Numbers, numbers, has_number, with_number}, Pools.{IsNumberOf}}
use Rattle.numbered_sets.proofs.{PlainLaws.{has_value, value_with_number, member_of_plain}, SiftLaws.{value_sifted}, ViewLaws.{false_unless}, KnownNumbers.{no_bit_of_none, one_number, found}}

no_bit : (n : ℕ) → has_bit 0 n ≡ false
no_bit n = false_unless (has_bit 0 n) ⊥ (no_bit_of_none n) (λ no. no)

-- no value with another number is the same
pub number_alone : (d : Domain) (vs : List PartValue) (v : PartValue) (n : ℕ) → IsDistinct same_part vs → IsNumberOf vs v n → IsNumberAlone vs v (with_number (numbers d 0) n)
number_alone d vs v n distinct number = record {
  each = λ k e lt.
      has_either 0 (2 ^ n) k ∙ ap₂ (λ (a b : Bool). a || b) (no_bit k) (has_one n k)
      ∙ elim (cases_eq k n) [
        | inl same ↦ eq-eqb k n same ∙ sym (ap (λ (u : PartValue). same_part u v) (ap (λ (j : ℕ). get_or vs j e) same ∙ number.is e) ∙ part_itself v)
        | inr differ ↦
            ne_eqb k n differ
            ∙ sym (false_unless (same_part (get_or vs k e) v) ⊥
            (λ same. differ (one_number vs v k n distinct lt number.known (get_or_default vs k v e lt ∙ part_right (get_or vs k e) v same) (number.is v)))
            (λ no. no))
      ];
}

-- none is the same
pub none_alone : (d : Domain) (vs : List PartValue) (v : PartValue) → list_any (same_part v) vs ≡ false → IsNumberAlone vs v (numbers d 0)
none_alone d vs v none = record {
  each = λ k e lt.
      no_bit k
      ∙ sym (false_unless (same_part (get_or vs k e) v) ⊥
      (λ same.
      let there : list_any (same_part v) vs ≡ true = list_any_at (same_part v) vs k e lt (ap (same_part v) (part_right (get_or vs k e) v same) ∙ part_itself v) in
      absurd (cc))
      (λ no. no));
}

-- a value is among those of some numbers where its number is
pub number_tells : (vs : List PartValue) (has : ℕ → Bool) (v : PartValue) (n : ℕ) → IsDistinct same_part vs → IsNumberOf vs v n → has n ≡ has_value vs has v
number_tells vs has v n distinct number = elim (cases_Bool (has n)) [
  | inl among ↦ among ∙ sym (value_with_number vs has n v number.known (number.is v) among)
  | inr missing ↦
      missing
      ∙ sym (false_unless (has_value vs has v) ⊥
      (λ there.
      let x = found vs has v there in
      let at : has n ≡ true = ap has (sym (one_number vs v x.number n distinct x.known number.known (x.is v) (number.is v))) ∙ x.there in
      absurd (cc))
      (λ none. none))
]

pub absent_tells : (vs : List PartValue) (has : ℕ → Bool) (v : PartValue) → list_any (same_part v) vs ≡ false → has_value vs has v ≡ false
absent_tells vs has v none = false_unless (has_value vs has v) ⊥
    (λ there.
    let x = found vs has v there in
    let any : list_any (same_part v) vs ≡ true = list_any_at (same_part v) vs x.number v x.known (ap (same_part v) (x.is v) ∙ part_itself v) in
    absurd (cc))
    (λ no. no)

-- ---- the number of a value by itself, if a set has it

and_false : (b : Bool) → (b && false) ≡ false
and_false true = refl
and_false false = refl

module _ (vs : List PartValue) (x : Numbers) (v : PartValue) where
  -- the numbers that are in the set and alone
  in_both : (alone y : Numbers) → IsNumberAlone vs v alone → y.domain ≡ x.domain → ((n : ℕ) → has_number y n ≡ (has_number x n && has_number alone n)) → IsSifted vs (test.Is v) x y
  in_both alone y h same each = record {
    domain = same;
    fewer = λ n has. (and_parts (has_number x n) (has_number alone n) (sym (each n) ∙ has)).0;
    values = λ w.
        member_of_plain vs y w
        ∙ value_sifted vs (has_number x) (has_number y) (passes (test.Is v)) w (λ n d lt. each n ∙ ap (λ (b : Bool). has_number x n && b) (h.each n d lt))
        ∙ ap (λ (b : Bool). b && passes (test.Is v) w) (sym (member_of_plain vs x w));
  }

  none_in_both : (y : Numbers) (n : ℕ) → has_number y n ≡ false → has_number (numbers x.domain 0) n ≡ (has_number x n && has_number y n)
  none_in_both y n none = no_bit n ∙ sym (ap (λ (b : Bool). has_number x n && b) none ∙ and_false (has_number x n))

  -- the value has no number
  pub only_none : list_any (same_part v) vs ≡ false → IsSifted vs (test.Is v) x (numbers x.domain 0)
  only_none none = in_both (numbers x.domain 0) (numbers x.domain 0) (none_alone x.domain vs v none) refl (λ n. none_in_both (numbers x.domain 0) n (no_bit n))

  module _ (k : ℕ) (distinct : IsDistinct same_part vs) (number : IsNumberOf vs v k) where
    abbrev own : Numbers
    own = with_number (numbers x.domain 0) k

    other_number : (n : ℕ) → (n ≡ k → ⊥) → has_number own n ≡ false
    other_number n differ = has_either 0 (2 ^ k) n ∙ ap₂ (λ (a b : Bool). a || b) (no_bit n) (has_one k n ∙ ne_eqb n k differ)

    is_there : IsTrue (has_number x k) → (n : ℕ) → has_number own n ≡ (has_number x n && has_number own n)
    is_there there n = elim (cases_eq n k) [
      | inl same ↦ sym (ap (λ (b : Bool). b && has_number own n) (ap (has_number x) same ∙ there))
      | inr differ ↦ other_number n differ ∙ sym (ap (λ (b : Bool). has_number x n && b) (other_number n differ) ∙ and_false (has_number x n))
    ]

    is_missing : has_number x k ≡ false → (n : ℕ) → has_number (numbers x.domain 0) n ≡ (has_number x n && has_number own n)
    is_missing none n = elim (cases_eq n k) [
      | inl same ↦ no_bit n ∙ sym (ap (λ (b : Bool). b && has_number own n) (ap (has_number x) same ∙ none))
      | inr differ ↦ none_in_both own n (other_number n differ)
    ]

    -- the set has its number
    pub only_there : IsTrue (has_number x k) → IsSifted vs (test.Is v) x own
    only_there there = in_both own own (number_alone x.domain vs v k distinct number) refl (is_there there)

    -- or lacks it
    pub only_missing : has_number x k ≡ false → IsSifted vs (test.Is v) x (numbers x.domain 0)
    only_missing none = in_both own (numbers x.domain 0) (number_alone x.domain vs v k distinct number) refl (is_missing none)
