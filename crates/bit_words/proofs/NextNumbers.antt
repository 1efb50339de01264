-- The first number of a set from one on.
use Rattle.std.proofs.Common.{◌≡◌, ℕ, ◌+◌, ◌-◌, ◌/◌, ◌%◌, ◌^◌, ◌<◌, ◌≤◌, true, false, List, ◌∷◌, sym, ap, ◌∙◌, inl, inr, arith, w64}
use Rattle.std.specs.{Prelude.{◌==◌}, Int.{bit_at, trailing_zeros}}
use Rattle.std.proofs.lemmas.{Bool.{cases_lt}, Nat.{shr-shr, shr_le, Bits.{bit_at-zero, bit_at-trailing_zeros}}}
use Rattle.bit_words.specs.Words.{bits_of_words}
use Rattle.bit_words.proofs.{BitCounts.{no_bit_past}, FirstWords.{has_low, has_high}}
use Rattle.osek_values.specs.Bits.{has_bit}

bit_up : (word from i : ℕ) → has_bit (word / 2 ^ from) i ≡ has_bit word (from + i)
bit_up word from i = ap (λ m. m % 2 == 1) (shr-shr word from i)

pub bit_from : (word from k : ℕ) → from ≤ k → has_bit word k ≡ has_bit (word / 2 ^ from) (k - from)
bit_from word from k le = (let at : k ≡ from + (k - from) = omega (arith, le) in ap (has_bit word) at ∙ sym (bit_up word from (k - from)))

pub none_up : (word from : ℕ) → word / 2 ^ from ≡ 0 → (k : ℕ) → from ≤ k → has_bit word k ≡ false
none_up word from none k le = bit_from word from k le ∙ ap (λ m. has_bit m (k - from)) none ∙ ap (λ b. b == 1) (bit_at-zero (k - from))

module _ (word from : ℕ) (small : word < 2 ^ 64) (some : 0 < word / 2 ^ from) where
  its_place : (trailing_zeros w64 (word / 2 ^ from) < 64) × (bit_at (word / 2 ^ from) (trailing_zeros w64 (word / 2 ^ from)) ≡ 1) × ((i : ℕ) → i < trailing_zeros w64 (word / 2 ^ from) → bit_at (word / 2 ^ from) i ≡ 0)
  its_place = bit_at-trailing_zeros w64 (word / 2 ^ from) some (let less = shr_le word from in omega (arith, less, small))

  pub found_has : has_bit word (from + trailing_zeros w64 (word / 2 ^ from)) ≡ true
  found_has = sym (bit_up word from (trailing_zeros w64 (word / 2 ^ from))) ∙ ap (λ b. b == 1) its_place.1

  pub found_few : from + trailing_zeros w64 (word / 2 ^ from) < 64
  found_few = elim (cases_lt (from + trailing_zeros w64 (word / 2 ^ from)) 64) [
    | inl lt ↦ lt
    | inr le ↦ (let none = no_bit_past word 64 (from + trailing_zeros w64 (word / 2 ^ from)) small le in let has = found_has in absurd (cc))
  ]

  pub found_none : (k : ℕ) → from ≤ k → k < from + trailing_zeros w64 (word / 2 ^ from) → has_bit word k ≡ false
  found_none k le lt = bit_from word from k le ∙ ap (λ b. b == 1) (its_place.2 (k - from) (omega (arith, le, lt)))

-- ---- two words

module _ (a b : ℕ) (ws : List ℕ) (fits : a < 2 ^ 64) where
  pub low_has : (n : ℕ) → n < 64 → has_bit a n ≡ true → has_bit (bits_of_words (a ∷ b ∷ ws)) n ≡ true
  low_has n lt has = has_low a (b ∷ ws) n lt ∙ has

  pub low_none : (n k : ℕ) → n ≤ 64 → k < n → has_bit a k ≡ false → has_bit (bits_of_words (a ∷ b ∷ ws)) k ≡ false
  low_none n k le lt none = has_low a (b ∷ ws) k (omega (arith, le, lt)) ∙ none

  pub high_has : (r : ℕ) → 64 + r < 128 → has_bit b r ≡ true → has_bit (bits_of_words (a ∷ b ∷ ws)) (64 + r) ≡ true
  high_has r lt has = (let same : 64 + r - 64 ≡ r = omega arith in has_high a b ws (64 + r) fits (omega arith) lt ∙ ap (has_bit b) same ∙ has)

  pub high_none : (from r : ℕ) → r ≤ 64 → ((k : ℕ) → from ≤ k → k < r → has_bit b k ≡ false) → (k : ℕ) → 64 + from ≤ k → k < 64 + r → has_bit (bits_of_words (a ∷ b ∷ ws)) k ≡ false
  high_none from r le none k above below = has_high a b ws k fits (omega (arith, above)) (omega (arith, below, le)) ∙ none (k - 64) (omega (arith, above)) (omega (arith, above, below))
