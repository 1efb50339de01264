-- Ranks: each number's, and those of the numbers in a set.
use Rattle.std.proofs.Common.{◌≡◌, ◌≢◌, ℕ, zero, suc, ◌+◌, ◌^◌, ◌<◌, ◌≤◌, Bool, true, false, ◌||◌, cond, List, [], ◌∷◌, ◌++◌, length, map, filter, set, get_or, refl, sym, ap, ap₂, subst, ◌∙◌, inl, inr, arith}
use Rattle.std.specs.{Prelude.{if◌then◌else◌, ◌==◌}, List.{IsDistinct, Sorted.{IsPermutation}}}
use Rattle.std.proofs.lemmas.{Bool.{cases_lt, cases_eq, eq-eqb, ne_eqb}, Map.Keys.{IsDistinct-IsPermutation, IsDistinct-from_apart, apart_from_distinct}}
use Rattle.std.proofs.lemmas.List.{get_or_default, get_or-set_same, get_or-set_other, length-set, length-map, Sorted.{IsPermutation-sym, Contains-permutation, length_permutation}}
use Rattle.bit_words.proofs.BitCounts.{has_either, has_one}
use Rattle.abstract_state.specs.declared.value.{Domain.{Domain}, PartValue.{PartValue, TheVariants.{OfAlarm}}}
use Rattle.numbered_sets.specs.{Numbers.{Numbers, numbers, has_number, with_number}, Views.{values_with}}
use Rattle.numbered_sets.proofs.{PlainLaws.{values_with_none}, ViewLaws.{false_unless}, KnownNumbers.{no_bit_of_none}}
use Rattle.osek_values.specs.Bits.{has_bit}
use Rattle.table_codec.specs.{declared.ascending.NumberedValue.{NumberedValue}, Ascending.{values_in, numbered_value, numbered_from}, Ranks.{IsRank, AreNumberedOnce, AreRanks, AreRanksIn, only_values, values_ranked}}
use Rattle.table_codec.proofs.AscendingValues.{values_same}

nothing : NumberedValue
nothing = numbered_value 0 (OfAlarm false)

pub rank_there : (all : List NumberedValue) (k : ℕ) (d : NumberedValue) → k < length all → IsRank all (get_or all k d).number k
rank_there all k d lt = record { known = lt; is = λ e. ap (λ (v : NumberedValue). v.number) (get_or_default all k e d lt) }

-- ---- each number is that of one value

length_numbered : (vs : List PartValue) (n : ℕ) → length (numbered_from n vs) ≡ length vs
length_numbered [] n = refl
length_numbered (v ∷ vs) n = ap suc (length_numbered vs (n + 1))

number_at : (vs : List PartValue) (n i : ℕ) (d : NumberedValue) → i < length vs → (get_or (numbered_from n vs) i d).number ≡ n + i
number_at [] n i d lt = absurd (omega (arith, lt))
number_at (v ∷ vs) n zero d lt = omega arith
number_at (v ∷ vs) n (suc i) d lt = (let rest = number_at vs (n + 1) i d (omega (arith, lt)) in omega (arith, rest))

abbrev same_number : NumberedValue → NumberedValue → Bool
same_number a b = a.number == b.number

flips : (a b : NumberedValue) → same_number a b ≡ same_number b a
flips a b = elim (cases_eq a.number b.number) [
  | inl same ↦ eq-eqb a.number b.number same ∙ sym (eq-eqb b.number a.number (sym same))
  | inr other ↦ ne_eqb a.number b.number other ∙ sym (ne_eqb b.number a.number (λ e. other (sym e)))
]

distinct_numbers : (vs : List PartValue) → IsDistinct same_number (numbered_from 0 vs)
distinct_numbers vs =
    IsDistinct-from_apart same_number (numbered_from 0 vs) (λ i j d lt below.
    let less : j < length vs = omega (arith, below, length_numbered vs 0) in
    let first = number_at vs 0 i d (omega (arith, lt, less)) in
    let second = number_at vs 0 j d less in
    ne_eqb (get_or (numbered_from 0 vs) i d).number (get_or (numbered_from 0 vs) j d).number (λ e. omega (arith, e, first, second, lt)))

module _ (vs : List PartValue) (all : List NumberedValue) (moved : IsPermutation (numbered_from 0 vs) all) where
  as_many : length all ≡ length vs
  as_many = length_permutation (numbered_from 0 vs) all moved ∙ length_numbered vs 0

  distinct : IsDistinct same_number all
  distinct = IsDistinct-IsPermutation same_number flips (numbered_from 0 vs) all moved (distinct_numbers vs)

  -- a value is at a place of both lists
  below : (n k : ℕ) → IsRank all n k → n < length all
  below n k is =
      let v = get_or all k nothing in
      let there = Contains-permutation all (numbered_from 0 vs) v (IsPermutation-sym (numbered_from 0 vs) all moved) (k, is.known, get_or_default all k v nothing is.known) in
      let less : there.0 < length vs = omega (arith, there.1, length_numbered vs 0) in
      let number = number_at vs 0 there.0 v less in
      let same : (get_or (numbered_from 0 vs) there.0 v).number ≡ v.number = ap (λ (w : NumberedValue). w.number) there.2 in
      omega (arith, number, same, is.is nothing, less, as_many)

  some : (n : ℕ) → n < length all → (k : ℕ) × IsRank all n k
  some n lt =
      let v = get_or (numbered_from 0 vs) n nothing in
      let here : n < length (numbered_from 0 vs) = omega (arith, lt, as_many, length_numbered vs 0) in
      let there = Contains-permutation (numbered_from 0 vs) all v moved (n, here, get_or_default (numbered_from 0 vs) n v nothing here) in
      let number : v.number ≡ 0 + n = number_at vs 0 n nothing (omega (arith, lt, as_many)) in (
        there.0,
        record {
          known = there.1;
          is = λ d. ap (λ (w : NumberedValue). w.number) (get_or_default all there.0 d v there.1 ∙ there.2) ∙ omega (arith, number);
        },
      )

  apart : (n j k : ℕ) → IsRank all n j → IsRank all n k → j < k → ⊥
  apart n j k first second lt =
      let differ = apart_from_distinct same_number all j k nothing distinct lt second.known in
      let same = eq-eqb (get_or all j nothing).number (get_or all k nothing).number (first.is nothing ∙ sym (second.is nothing)) in
      absurd (cc)

  one : (n j k : ℕ) → IsRank all n j → IsRank all n k → j ≡ k
  one n j k first second = elim (cases_lt j k) [
    | inl lt ↦ absurd (apart n j k first second lt)
    | inr le ↦ elim (cases_lt k j) [
      | inl lt ↦ absurd (apart n k j second first lt)
      | inr ge ↦ omega (arith, le, ge)
    ]
  ]

  -- Sorted, values keep their numbers.
  pub numbered_once : AreNumberedOnce all
  numbered_once = record { below = below; some = some; one = one }

-- ---- the rank of each number

-- the ranks below one were put at their numbers
pub record AreRanksUpTo (all : List NumberedValue) (rank : ℕ) (ranks : List ℕ) : Type 0 where
  pub as_many : length ranks ≡ length all
  pub each : (n k : ℕ) → k < rank → IsRank all n k → get_or ranks n 0 ≡ k

module _ (all : List NumberedValue) (once : AreNumberedOnce all) where
  pub rank_put : (rank n : ℕ) (ranks : List ℕ) → IsRank all n rank → AreRanksUpTo all rank ranks → AreRanksUpTo all (rank + 1) (set ranks n rank)
  rank_put rank n ranks is h = record {
    as_many = length-set ranks n rank ∙ h.as_many;
    each = λ m k lt at. elim (cases_eq m n) [
      | inl same ↦
          (let inside : n < length ranks = omega (arith, once.below n rank is, h.as_many) in
          ap (λ (i : ℕ). get_or (set ranks n rank) i 0) same ∙ get_or-set_same ranks n rank 0 inside ∙ once.one n rank k is (subst (λ (i : ℕ). IsRank all i k) same at))
      | inr other ↦
          (let differ : k ≢ rank = λ e. other (sym (at.is nothing) ∙ ap (λ (i : ℕ). (get_or all i nothing).number) e ∙ is.is nothing) in
          get_or-set_other ranks n m rank 0 other ∙ h.each m k (omega (arith, lt, differ)) at)
    ];
  }

  pub all_ranked : (rank : ℕ) (ranks : List ℕ) → length all ≤ rank → AreRanksUpTo all rank ranks → AreRanks all ranks
  all_ranked rank ranks whole h = record {
    as_many = h.as_many;
    each = λ n lt.
        let found = once.some n (omega (arith, lt, h.as_many)) in
        subst (IsRank all n) (sym (h.each n found.0 (omega (arith, found.1.known, whole)) found.1)) found.1;
  }

-- ---- the ranks of the numbers in a set

or_true : (b : Bool) → (b || true) ≡ true
or_true true = refl
or_true false = refl

or_false : (b : Bool) → (b || false) ≡ b
or_false true = refl
or_false false = refl

has_it : (y : Numbers) (r : ℕ) → has_number (with_number y r) r ≡ true
has_it y r = has_either y.bits (2 ^ r) r ∙ ap (λ (b : Bool). has_number y r || b) (has_one r r ∙ eq-eqb r r refl) ∙ or_true (has_number y r)

has_others : (y : Numbers) (r k : ℕ) → k ≢ r → has_number (with_number y r) k ≡ has_number y k
has_others y r k other = has_either y.bits (2 ^ r) k ∙ ap (λ (b : Bool). has_number y k || b) (has_one r k ∙ ne_eqb k r other) ∙ or_false (has_number y k)

-- one value more passes
one_more : (vs : List PartValue) (f g : ℕ → Bool) (r : ℕ) → r < length vs → f r ≡ false → g r ≡ true → ((k : ℕ) → k ≢ r → g k ≡ f k) → length (values_with vs g) ≡ length (values_with vs f) + 1
one_more [] f g r lt out taken same = absurd (omega (arith, lt))
one_more (v ∷ vs) f g zero lt out taken same =
    let more = ap₂ (λ (b : Bool) (ws : List PartValue). length ((if b then v ∷ [] else []) ++ ws)) taken (values_same vs (λ n. g (suc n)) (λ n. f (suc n)) (λ n. same (suc n) (λ e. omega (arith, e)))) in
    let fewer = ap (λ (b : Bool). length ((if b then v ∷ [] else []) ++ values_with vs (λ n. f (suc n)))) out in
    omega (arith, more, fewer)
one_more (v ∷ vs) f g (suc r) lt out taken same =
    let rest = one_more vs (λ n. f (suc n)) (λ n. g (suc n)) r (omega (arith, lt)) out taken (λ k other. same (suc k) (λ e. other (omega (arith, e)))) in
    ap (λ (b : Bool). length ((if b then v ∷ [] else []) ++ values_with vs (λ n. g (suc n)))) (same 0 (λ e. omega (arith, e))) ∙ by_test (f 0) rest
  where
    by_test : (b : Bool) → length (values_with vs (λ n. g (suc n))) ≡ length (values_with vs (λ n. f (suc n))) + 1
        → length ((if b then v ∷ [] else []) ++ values_with vs (λ n. g (suc n))) ≡ length ((if b then v ∷ [] else []) ++ values_with vs (λ n. f (suc n))) + 1
    by_test true e = omega (arith, e)
    by_test false e = e

-- where the ranks that pass are those of a set's numbers
pub ranked_in : (all : List NumberedValue) (f : ℕ → Bool) (x : Numbers) → ((k : ℕ) (d : NumberedValue) → k < length all → f k ≡ has_number x (get_or all k d).number) → values_with (only_values all) f ≡ values_in x all
ranked_in [] f x h = refl
ranked_in (w ∷ all) f x h =
    ap₂ (λ (b : Bool) (ws : List PartValue). (if b then w.value ∷ [] else []) ++ ws) (h 0 w (omega arith)) (ranked_in all (λ n. f (suc n)) x (λ k d lt. h (suc k) d (omega (arith, lt))))
    ∙ by_test (has_number x w.number)
  where
    by_test : (b : Bool) → (if b then w.value ∷ [] else []) ++ values_in x all
        ≡ map (λ (v : NumberedValue). v.value) (cond b (w ∷ filter (λ (v : NumberedValue). has_number x v.number) all) (filter (λ (v : NumberedValue). has_number x v.number) all))
    by_test true = refl
    by_test false = refl

-- the ranks of the numbers below a bound, and how many they are
pub record AreRankedUpTo (x : Numbers) (all : List NumberedValue) (bound : ℕ) (y : Numbers) (count : ℕ) : Type 0 where
  pub below : (n k : ℕ) → IsRank all n k → n < bound → has_number y k ≡ has_number x n
  pub past : (n k : ℕ) → IsRank all n k → bound ≤ n → has_number y k ≡ false
  pub few : count ≤ bound
  pub size : count ≡ length (values_ranked y all)

no_rank : (k : ℕ) → has_bit 0 k ≡ false
no_rank k = false_unless (has_bit 0 k) ⊥ (no_bit_of_none k) (λ no. no)

pub none_ranked : (x : Numbers) (all : List NumberedValue) (d : Domain) → AreRankedUpTo x all 0 (numbers d 0) 0
none_ranked x all d = record {
  below = λ n k is lt. absurd (omega (arith, lt));
  past = λ n k is le. no_rank k;
  few = omega arith;
  size = sym (ap (λ (vs : List PartValue). length vs) (values_with_none (only_values all) (has_bit 0) no_rank));
}

-- the set has no number from there to a later one
pub ranked_on : (x : Numbers) (all : List NumberedValue) (k j : ℕ) (y : Numbers) (count : ℕ) → k ≤ j → ((i : ℕ) → k ≤ i → i < j → has_number x i ≡ false) → AreRankedUpTo x all k y count → AreRankedUpTo x all j y count
ranked_on x all k j y count up none h = record {
  below = λ n r is lt. elim (cases_lt n k) [
    | inl less ↦ h.below n r is less
    | inr from ↦ h.past n r is from ∙ sym (none n from lt)
  ];
  past = λ n r is le. h.past n r is (omega (arith, le, up));
  few = omega (arith, h.few, up);
  size = h.size;
}

module _ (x : Numbers) (all : List NumberedValue) (once : AreNumberedOnce all) (number rank : ℕ) (is : IsRank all number rank) where
  -- the rank of the next number in the set
  pub ranked_more : (y : Numbers) (count : ℕ) → has_number x number ≡ true → AreRankedUpTo x all number y count → AreRankedUpTo x all (number + 1) (with_number y rank) (count + 1)
  ranked_more y count there h = record {
    below = λ n k at lt. elim (cases_eq n number) [
      | inl same ↦
          (let place : k ≡ rank = once.one n k rank at (subst (λ (i : ℕ). IsRank all i rank) (sym same) is) in
          ap (has_number (with_number y rank)) place ∙ has_it y rank ∙ sym (ap (has_number x) same ∙ there))
      | inr other ↦ has_others y rank k (elsewhere n k at other) ∙ h.below n k at (omega (arith, lt, other))
    ];
    past = λ n k at le. has_others y rank k (elsewhere n k at (λ e. omega (arith, le, e))) ∙ h.past n k at (omega (arith, le));
    few = omega (arith, h.few);
    size =
        let inside : rank < length (only_values all) = omega (arith, is.known, length-map all (λ (v : NumberedValue). v.value)) in
        let more = one_more (only_values all) (has_number y) (has_number (with_number y rank)) rank inside (h.past number rank is (omega arith)) (has_it y rank) (λ k other. has_others y rank k other) in
        omega (arith, more, h.size);
  }
    where
      elsewhere : (n k : ℕ) → IsRank all n k → n ≢ number → k ≢ rank
      elsewhere n k at other e = other (sym (at.is nothing) ∙ ap (λ (i : ℕ). (get_or all i nothing).number) e ∙ is.is nothing)

-- the ranks of all numbers of the set
pub all_ranks_in : (x : Numbers) (all : List NumberedValue) (once : AreNumberedOnce all) (bound : ℕ) (y : Numbers) (count : ℕ) → length all ≤ bound → AreRankedUpTo x all bound y count → AreRanksIn x all (record { ranks = y; count = count })
all_ranks_in x all once bound y count whole h =
    let same = ranked_in all (has_number y) x (λ k d lt.
    let is = rank_there all k d lt in
    h.below (get_or all k d).number k is (omega (arith, once.below (get_or all k d).number k is, whole))) in
    record { values = same; count = h.size ∙ ap (λ (vs : List PartValue). length vs) same }
