-- A cursor goes from number to number.
use Rattle.std.proofs.Common.{min, ◌≡◌, ◌≢◌, ℕ, ◌+◌, ◌-◌, ◌*◌, ◌/◌, ◌%◌, ◌^◌, ◌<◌, ◌≤◌, true, false, List, ◌∷◌, get_or, sym, ap, subst, ◌∙◌, inl, inr, arith, w64}
use Rattle.std.specs.{Prelude.{◌==◌, bit_xor}, Int.{bit_at, trailing_zeros}}
use Rattle.std.proofs.Math.Nat.{mod-eq_of_lt, div-mul-le_self}
use Rattle.std.proofs.lemmas.{Bool.{cases_eq, cases_lt}, Nat.{one_shl, pow_pos, Bits.{bit_at-zero, bit_at-lt, bit_at_xor, bit_at-pow_same, bit_at-pow_other, bit_at-trailing_zeros}}}
use Rattle.bit_words.specs.Cursors.{bit_cursor, IsBefore, IsNextNumber, IsStep, IsAtWord}
use Rattle.bit_words.specs.declared.bit_cursor.BitCursor.{BitCursor}
use Rattle.bit_words.specs.Words.{AreWords, bits_of_words}
use Rattle.bit_words.proofs.{WordLaws.{low_bit, high_bit, small_at}, SkippedWords.{bit_of_word}, FirstWords.{has_high, has_further}}
use Rattle.bit_words.proofs.NextNumbers.{bit_from}
use Rattle.osek_values.specs.Bits.{has_bit}

-- a word without one of its bits
without_it : (w t : ℕ) → bit_at w t ≡ 1 → has_bit (bit_xor w (2 ^ t)) t ≡ false
without_it w t has =
    let none : bit_at (bit_xor w (2 ^ t)) t ≡ 0 = omega (arith, bit_at_xor w (2 ^ t) t, bit_at-pow_same t, has) in
    ap (λ b. b == 1) none

without_other : (w t k : ℕ) → k ≢ t → has_bit (bit_xor w (2 ^ t)) k ≡ has_bit w k
without_other w t k differ =
    let same : bit_at (bit_xor w (2 ^ t)) k ≡ bit_at w k = omega (arith, bit_at_xor w (2 ^ t) k, bit_at-pow_other t k differ, bit_at-lt w k) in
    ap (λ b. b == 1) same

module _ (bits from : ℕ) (c : BitCursor) (before : IsBefore bits from c) (some : 0 < c.rest) (small : c.rest < 2 ^ 64) where
  abbrev t : ℕ
  t = trailing_zeros w64 c.rest

  its : (t < 64) × (bit_at c.rest t ≡ 1) × ((i : ℕ) → i < t → bit_at c.rest i ≡ 0)
  its = bit_at-trailing_zeros w64 c.rest some small

  up : from ≤ c.base + t
  up = elim (cases_lt (c.base + t) from) [
    | inl lt ↦ (let none = before.passed t lt in let has : has_bit c.rest t ≡ true = ap (λ b. b == 1) its.1 in absurd (cc))
    | inr le ↦ le
  ]

  abbrev left : ℕ
  left = bit_xor c.rest (2 ^ t)

  behind : IsBefore bits (c.base + t + 1) (bit_cursor c.base left)
  behind = record {
    word = before.word;
    begun = omega arith;
    near = omega (arith, its.0);
    passed = λ k lt. elim (cases_eq k t) [
      | inl same ↦ ap (has_bit (bit_xor c.rest (2 ^ t))) same ∙ without_it c.rest t its.1
      | inr differ ↦ without_other c.rest t k differ ∙ ap (λ b. b == 1) (its.2 k (omega (arith, lt, differ)))
    ];
    rest = λ k lt le. before.rest k lt (omega (arith, le, up)) ∙ sym (without_other c.rest t k (λ e. omega (arith, e, le)));
  }

  pub stepped : IsStep bits from (c.base + t) (bit_cursor c.base (bit_xor c.rest (1 * 2 ^ t % 2 ^ 64)))
  stepped = record {
    up = up;
    has = before.rest t its.0 up ∙ ap (λ b. b == 1) its.1;
    none = λ k le lt.
        (let at : k ≡ c.base + (k - c.base) = omega (arith, le, before.begun) in
        let first : k - c.base < t = omega (arith, lt, le, before.begun) in
        ap (has_bit bits) at ∙ before.rest (k - c.base) (omega (arith, first, its.0)) (omega (arith, le, before.begun)) ∙ ap (λ b. b == 1) (its.2 (k - c.base) first));
    next = subst (λ p. IsBefore bits (c.base + t + 1) (bit_cursor c.base (bit_xor c.rest p))) (sym (one_shl t 64 its.0)) behind;
  }

-- the bits of a word from one on
module _ (w bit : ℕ) where
  pub none_below : (k : ℕ) → k < bit → has_bit (w / 2 ^ bit * 2 ^ bit) k ≡ false
  none_below k lt =
      let same : w / 2 ^ bit * 2 ^ bit ≡ 0 + 2 ^ bit * (w / 2 ^ bit) = omega arith in
      ap (λ m. has_bit m k) same ∙ ap (λ b. b == 1) (low_bit (w / 2 ^ bit) bit 0 k lt ∙ bit_at-zero k)

  pub same_from : (k : ℕ) → bit ≤ k → has_bit (w / 2 ^ bit * 2 ^ bit) k ≡ has_bit w k
  same_from k le =
      let same : w / 2 ^ bit * 2 ^ bit ≡ 0 + 2 ^ bit * (w / 2 ^ bit) = omega arith in
      let at : k ≡ bit + (k - bit) = omega (arith, le) in
      ap (λ m. has_bit m k) same ∙ ap (has_bit (0 + 2 ^ bit * (w / 2 ^ bit))) at ∙ ap (λ b. b == 1) (high_bit (w / 2 ^ bit) bit 0 (k - bit) (pow_pos bit)) ∙ sym (bit_from w bit k le)

pub whole_word : (bits base w : ℕ) → base % 64 ≡ 0 → ((k : ℕ) → k < 64 → has_bit bits (base + k) ≡ has_bit w k) → IsBefore bits base (bit_cursor base w)
whole_word bits base w word has = record {
  word = word;
  begun = omega arith;
  near = omega arith;
  passed = λ k lt. absurd (omega (arith, lt));
  rest = λ k lt le. has k lt;
}

-- the bits of words from a number on
pub cut_word : (ws : List ℕ) (small : AreWords ws) (from w : ℕ) → w ≡ get_or ws (from / 64) 0
    → IsBefore (bits_of_words ws) from (bit_cursor (from - from % 64) (w / 2 ^ (from % 64) * 2 ^ (from % 64) % 2 ^ 64))
cut_word ws small from w is =
    let place = from / 64 in
    let bit = from % 64 in
    let fits : w < 2 ^ 64 = subst (λ v. v < 2 ^ 64) (sym is) (small_at ws place small) in
    let whole : w / 2 ^ bit * 2 ^ bit % 2 ^ 64 ≡ w / 2 ^ bit * 2 ^ bit = cut_fits w bit fits in
    let base : from - from % 64 ≡ 64 * (from / 64) = omega arith in
    record {
      word = omega arith;
      begun = omega arith;
      near = omega arith;
      passed = λ k lt. ap (λ m. has_bit m k) whole ∙ none_below w bit k (omega (arith, lt));
      rest = λ k lt le.
          ap (λ b. has_bit (bits_of_words ws) (b + k)) base ∙ bit_of_word ws small place k lt ∙ ap (λ m. has_bit m k) (sym is)
          ∙ sym (ap (λ m. has_bit m k) whole ∙ same_from w bit k (omega (arith, le)));
    }
  where
    cut_fits : (v i : ℕ) → v < 2 ^ 64 → v / 2 ^ i * 2 ^ i % 2 ^ 64 ≡ v / 2 ^ i * 2 ^ i
    cut_fits v i lt = mod-eq_of_lt (let le = div-mul-le_self v (2 ^ i) in omega (arith, le, lt))

pub no_bit_of : (w k : ℕ) → w ≡ 0 → has_bit w k ≡ false
no_bit_of w k none = ap (λ v. has_bit v k) none ∙ ap (λ b. b == 1) (bit_at-zero k)

-- past words without a bit
pub at_later : (bits from j : ℕ) (c : BitCursor) → from ≤ j → ((k : ℕ) → from ≤ k → k < j → has_bit bits k ≡ false) → IsAtWord bits j c → IsAtWord bits from c
at_later bits from j c le none h = record {
  up = omega (arith, le, h.up);
  none = λ k above below. elim (cases_lt k j) [
    | inl lt ↦ none k above lt
    | inr past ↦ h.none k past below
  ];
  before = h.before;
}

-- behind two words more
module _ (a b : ℕ) (ws : List ℕ) (fits : a < 2 ^ 64) (too : b < 2 ^ 64) where
  pub further_bit : (k : ℕ) → has_bit (bits_of_words (a ∷ b ∷ ws)) (128 + k) ≡ has_bit (bits_of_words ws) k
  further_bit k = (let same : 128 + k - 128 ≡ k = omega arith in has_further a b ws (128 + k) fits too (omega arith) ∙ ap (has_bit (bits_of_words ws)) same)

  pub none_further : (k : ℕ) → 128 ≤ k → has_bit (bits_of_words ws) (k - 128) ≡ false → has_bit (bits_of_words (a ∷ b ∷ ws)) k ≡ false
  none_further k le none = has_further a b ws k fits too le ∙ none

  pub further_word : (from : ℕ) (c : BitCursor) → IsAtWord (bits_of_words ws) from c → IsAtWord (bits_of_words (a ∷ b ∷ ws)) (128 + from) (bit_cursor (128 + c.base) c.rest)
  further_word from c h = record {
    up = omega (arith, h.up);
    none = λ k above below. none_further k (omega (arith, above)) (h.none (k - 128) (omega (arith, above)) (omega (arith, above, below)));
    before =
        whole_word (bits_of_words (a ∷ b ∷ ws)) (128 + c.base) c.rest (omega (arith, h.before.word))
        (λ k lt. (let same : 128 + c.base + k ≡ 128 + (c.base + k) = omega arith in
        ap (has_bit (bits_of_words (a ∷ b ∷ ws))) same ∙ further_bit (c.base + k) ∙ h.before.rest k lt (omega arith)));
  }

  pub none_high : b ≡ 0 → (k : ℕ) → 64 ≤ k → k < 128 → has_bit (bits_of_words (a ∷ b ∷ ws)) k ≡ false
  none_high none k le lt = has_high a b ws k fits le lt ∙ no_bit_of b (k - 64) none

-- ---- the next number below a bound

module _ (bits from below n m : ℕ) (c : BitCursor) (is : m ≡ min n below) (h : IsStep bits from n c) where
  pub first_below : from ≤ below → IsNextNumber bits from below m
  first_below le = record {
    up = omega (arith, is, h.up, le);
    few = omega (arith, is);
    has = λ lt. (let same : m ≡ n = omega (arith, is, lt) in ap (has_bit bits) same ∙ h.has);
    none = λ k above lt. h.none k above (omega (arith, is, lt));
  }

  pub behind_first : m < below → IsBefore bits (m + 1) c
  behind_first lt = (let same : n ≡ m = omega (arith, is, lt) in subst (λ k. IsBefore bits (k + 1) c) same h.next)

-- the cursor's word has no number more
module _ (bits from : ℕ) (c : BitCursor) (before : IsBefore bits from c) (empty : c.rest ≡ 0) where
  none_left : (k : ℕ) → from ≤ k → k < 64 * (c.base / 64 + 1) → has_bit bits k ≡ false
  none_left k above below =
      let at : k ≡ c.base + (k - c.base) = omega (arith, above, before.begun) in
      let within : k - c.base < 64 = omega (arith, below, before.word) in
      ap (has_bit bits) at ∙ before.rest (k - c.base) within (omega (arith, above, before.begun)) ∙ no_bit_of c.rest (k - c.base) empty

  pub past_word : (n : ℕ) (at behind : BitCursor) → IsAtWord bits (64 * (c.base / 64 + 1)) at → IsStep bits at.base n behind → IsStep bits from n behind
  past_word n at behind word h = record {
    up = omega (arith, word.up, h.up, before.near, before.word);
    has = h.has;
    none = λ k above below. elim (cases_lt k (64 * (c.base / 64 + 1))) [
      | inl lt ↦ none_left k above lt
      | inr le ↦ elim (cases_lt k at.base) [
        | inl lt ↦ word.none k le lt
        | inr past ↦ h.none k past below
      ]
    ];
    next = h.next;
  }

  pub none_below_bound : (below : ℕ) → from ≤ below → ((k : ℕ) → 64 * (c.base / 64 + 1) ≤ k → k < below → has_bit bits k ≡ false) → IsNextNumber bits from below below
  none_below_bound below le none = record {
    up = le;
    few = omega arith;
    has = λ lt. absurd (omega (arith, lt));
    none = λ k above lt. elim (cases_lt k (64 * (c.base / 64 + 1))) [
      | inl first ↦ none_left k above first
      | inr past ↦ none k past lt
    ];
  }
