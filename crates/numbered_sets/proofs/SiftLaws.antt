-- Tests of values as numbers: what is left of a set, and that an entry's numbers have values.
use Rattle.std.proofs.Common.{◌≡◌, ℕ, zero, suc, ◌+◌, ◌/◌, ◌%◌, ◌^◌, ◌<◌, ◌≤◌, Bool, true, false, ◌||◌, ◌&&◌, not, List, [], ◌∷◌, length, get_or, set, refl, sym, ap, ap₂, subst, ◌∙◌, inl, inr, arith, IsTrue, get_or-set_same}
use Rattle.std.specs.Prelude.{◌==◌}
use Rattle.std.proofs.{Math.Nat.{pow-suc}, lemmas.{Bool.{cases_eq, cases_lt, and_parts, eq-eqb, ne_eqb}, List.{get_or_default}}}
use Rattle.std.proofs.lemmas.Nat.Bits.{bit_at_lowest, bit_at-suc}
use Rattle.bit_words.proofs.{BitCounts.{has_either, has_one}, KeptWords.{has_both}, OtherWords.{has_alone}}
use Rattle.osek_values.specs.Bits.{has_bit}
use Rattle.abstract_state.specs.{declared.value.{Domain.{Domain}, PartValue.{PartValue, TheVariants.{OfAlarm}}}, ValueOrder.{same_part}, Tables.{is_member}}
use Rattle.abstract_state.proofs.OrderLaws.{part_right}
use Rattle.flow_model.specs.{declared.test.Test.{Test}, Tests.{passes}}
use Rattle.numbered_sets.specs.Passing.{ArePassing, IsSifted}
use Rattle.numbered_sets.specs.{Numbers.{Numbers, numbers, has_number, with_number, kept_numbers, other_numbers}, NumberedEntries.{no_set}}
use Rattle.numbered_sets.specs.Views.{values_with, plain_set}
use Rattle.numbered_sets.proofs.{PlainLaws.{has_value, member_of_plain, any_first, value_with_number}, ViewLaws.{false_unless, below_power}, KnownNumbers.{no_bit_of_none}}

-- ---- what is left of a set

sifted_first : (f p s r q : Bool) → (s ≡ true → p ≡ q) → (((f && p) && s) || (r && q)) ≡ (((f && s) || r) && q)
sifted_first true p true r q e = subst (λ (b : Bool). (((true && b) && true) || (r && q)) ≡ (((true && true) || r) && q)) (sym (e refl)) (taken q r)
  where
    taken : (q r : Bool) → (((true && q) && true) || (r && q)) ≡ (((true && true) || r) && q)
    taken true r = refl
    taken false true = refl
    taken false false = refl
sifted_first false p true r q e = refl
sifted_first true true false r q e = refl
sifted_first true false false r q e = refl
sifted_first false p false r q e = refl

pub value_sifted : (vs : List PartValue) (f g : ℕ → Bool) (p : PartValue → Bool) (w : PartValue) → ((n : ℕ) (d : PartValue) → n < length vs → g n ≡ (f n && p (get_or vs n d))) → has_value vs g w ≡ (has_value vs f w && p w)
value_sifted [] f g p w h = refl
value_sifted (v ∷ vs) f g p w h =
    any_first (g 0) v w (values_with vs (λ n. g (suc n)))
    ∙ ap₂ (λ (a b : Bool). (a && same_part w v) || b) (h 0 v (omega arith)) (value_sifted vs (λ n. f (suc n)) (λ n. g (suc n)) p w (λ n d lt. h (suc n) d (omega (arith, lt))))
    ∙ sifted_first (f 0) (p v) (same_part w v) (has_value vs (λ n. f (suc n)) w) (p w) (λ same. ap p (sym (part_right w v same)))
    ∙ ap (λ (b : Bool). b && p w) (sym (any_first (f 0) v w (values_with vs (λ n. f (suc n)))))

-- the set that was put in
pub put_at : (xs ys : List Numbers) (k : ℕ) (x : Numbers) → k < length xs → ys ≡ set xs k x → get_or ys k no_set ≡ x
put_at xs ys k x lt write = ap (λ (zs : List Numbers). get_or zs k no_set) write ∙ get_or-set_same xs k x no_set lt

-- where a mask has the numbers of those that pass
pub kept_by : (vs : List PartValue) (t : Test) (x mask : Numbers) → ((n : ℕ) (d : PartValue) → n < length vs → has_number mask n ≡ passes t (get_or vs n d)) → IsSifted vs t x (kept_numbers x mask)
kept_by vs t x mask h = record {
  domain = refl;
  fewer = λ n has. (and_parts (has_number x n) (has_number mask n) (sym (has_both x.bits mask.bits n) ∙ has)).0;
  values = λ v.
      member_of_plain vs (kept_numbers x mask) v
      ∙ value_sifted vs (has_number x) (has_number (kept_numbers x mask)) (passes t) v (λ n d lt. has_both x.bits mask.bits n ∙ ap (λ (b : Bool). has_number x n && b) (h n d lt))
      ∙ ap (λ (b : Bool). b && passes t v) (sym (member_of_plain vs x v));
}

-- where a mask has those of the others
pub left_by : (vs : List PartValue) (t : Test) (x mask : Numbers) → ((n : ℕ) (d : PartValue) → n < length vs → not (has_number mask n) ≡ passes t (get_or vs n d)) → IsSifted vs t x (other_numbers x mask)
left_by vs t x mask h = record {
  domain = refl;
  fewer = λ n has. (and_parts (has_number x n) (not (has_number mask n)) (sym (has_alone x.bits mask.bits n) ∙ has)).0;
  values = λ v.
      member_of_plain vs (other_numbers x mask) v
      ∙ value_sifted vs (has_number x) (has_number (other_numbers x mask)) (passes t) v (λ n d lt. has_alone x.bits mask.bits n ∙ ap (λ (b : Bool). has_number x n && b) (h n d lt))
      ∙ ap (λ (b : Bool). b && passes t v) (sym (member_of_plain vs x v));
}

and_again : (a b : Bool) → (a && (a && b)) ≡ (a && b)
and_again true b = refl
and_again false b = refl

pub passing_kept : (vs : List PartValue) (t : Test) (x mask : Numbers) → ArePassing vs t x mask → IsSifted vs t x (kept_numbers x mask)
passing_kept vs t x mask h = record {
  domain = refl;
  fewer = λ n has. (and_parts (has_number x n) (has_number mask n) (sym (has_both x.bits mask.bits n) ∙ has)).0;
  values = λ v.
      member_of_plain vs (kept_numbers x mask) v
      ∙ value_sifted vs (has_number x) (has_number (kept_numbers x mask)) (passes t) v
      (λ n d lt. has_both x.bits mask.bits n ∙ ap (λ (b : Bool). has_number x n && b) (h.each n d lt) ∙ and_again (has_number x n) (passes t (get_or vs n d)))
      ∙ ap (λ (b : Bool). b && passes t v) (sym (member_of_plain vs x v));
}

-- ---- the numbers of a set below one whose values pass

pub record ArePassingBelow (vs : List PartValue) (t : Test) (x mask : Numbers) (k : ℕ) : Type 0 where
  pub each : (n : ℕ) (d : PartValue) → n < k → n < length vs → has_number mask n ≡ (has_number x n && passes t (get_or vs n d))
  pub past : (n : ℕ) → k ≤ n → has_number mask n ≡ false

pub none_passing : (vs : List PartValue) (t : Test) (x : Numbers) (d : Domain) → ArePassingBelow vs t x (numbers d 0) 0
none_passing vs t x d = record {
  each = λ n e lt known. absurd (omega (arith, lt));
  past = λ n le. false_unless (has_bit 0 n) ⊥ (no_bit_of_none n) (λ no. no);
}

-- the set has no number from there to a later one
pub passing_on : (vs : List PartValue) (t : Test) (x mask : Numbers) (k j : ℕ) → k ≤ j → ((n : ℕ) → k ≤ n → n < j → has_number x n ≡ false) → ArePassingBelow vs t x mask k → ArePassingBelow vs t x mask j
passing_on vs t x mask k j up none h = record {
  each = λ n d lt known. elim (cases_lt n k) [
    | inl below ↦ h.each n d below known
    | inr from ↦ h.past n from ∙ ap (λ (b : Bool). b && passes t (get_or vs n d)) (sym (none n from lt))
  ];
  past = λ n le. h.past n (omega (arith, le, up));
}

module _ (vs : List PartValue) (t : Test) (x mask : Numbers) (k : ℕ) (there : IsTrue (has_number x k)) (h : ArePassingBelow vs t x mask k) where
  pub passing_taken : ((d : PartValue) → k < length vs → passes t (get_or vs k d) ≡ true) → ArePassingBelow vs t x (with_number mask k) (k + 1)
  passing_taken passed = record {
    each = λ n d lt known. elim (cases_eq n k) [
      | inl last ↦
          has_either mask.bits (2 ^ k) n ∙ ap (λ (b : Bool). has_number mask n || b) (has_one k n ∙ eq-eqb n k last) ∙ or_true (has_number mask n)
          ∙ sym (ap₂ (λ (a b : Bool). a && b) (ap (has_number x) last ∙ there) (ap (λ j. passes t (get_or vs j d)) last ∙ passed d (omega (arith, last, known))))
      | inr other ↦
          has_either mask.bits (2 ^ k) n ∙ ap (λ (b : Bool). has_number mask n || b) (has_one k n ∙ ne_eqb n k other) ∙ or_false (has_number mask n)
          ∙ h.each n d (omega (arith, lt, other)) known
    ];
    past = λ n le.
        has_either mask.bits (2 ^ k) n ∙ ap₂ (λ (a b : Bool). a || b) (h.past n (omega (arith, le))) (has_one k n ∙ ne_eqb n k (λ e. omega (arith, e, le)));
  }
    where
      or_true : (b : Bool) → (b || true) ≡ true
      or_true true = refl
      or_true false = refl

      or_false : (b : Bool) → (b || false) ≡ b
      or_false true = refl
      or_false false = refl

  pub passing_left : ((d : PartValue) → k < length vs → passes t (get_or vs k d) ≡ false) → ArePassingBelow vs t x mask (k + 1)
  passing_left failed = record {
    each = λ n d lt known. elim (cases_eq n k) [
      | inl last ↦
          h.past n (omega (arith, last))
          ∙ sym (ap₂ (λ (a b : Bool). a && b) (ap (has_number x) last ∙ there) (ap (λ j. passes t (get_or vs j d)) last ∙ failed d (omega (arith, last, known))))
      | inr other ↦ h.each n d (omega (arith, lt, other)) known
    ];
    past = λ n le. h.past n (omega (arith, le));
  }

pub all_passing : (vs : List PartValue) (t : Test) (x mask : Numbers) (k : ℕ) → length vs ≤ k → ArePassingBelow vs t x mask k → ArePassing vs t x mask
all_passing vs t x mask k whole h = record { each = λ n d lt. h.each n d (omega (arith, lt, whole)) lt }

-- ---- sets that aren't empty

pub some_bit : (w m : ℕ) → m < 2 ^ w → 0 < m → (n : ℕ) × (has_bit m n ≡ true)
some_bit zero m lt some = absurd (omega (arith, lt, some))
some_bit (suc w) m lt some = elim (cases_eq (m % 2) 1) [
  | inl odd ↦ (0, ap (λ b. b == 1) (bit_at_lowest m ∙ odd))
  | inr even ↦
      (let rest = some_bit w (m / 2) (omega (arith, lt, pow-suc 2 w)) (omega (arith, some, even)) in
      (suc rest.0, ap (λ b. b == 1) (bit_at-suc m rest.0) ∙ rest.1))
]

-- a value has the number
pub some_value : (vs : List PartValue) (x : Numbers) → ((n : ℕ) → IsTrue (has_number x n) → n < length vs) → 0 < x.bits → (v : PartValue) × IsTrue (is_member (plain_set vs x) v)
some_value vs x known some =
    let low = below_power x.bits in
    let bit = some_bit x.bits x.bits low some in
    let lt = known bit.0 bit.1 in
    let v = get_or vs bit.0 (OfAlarm false) in
    (v, member_of_plain vs x v ∙ value_with_number vs (has_number x) bit.0 v lt (get_or_default vs bit.0 v (OfAlarm false) lt) bit.1)
