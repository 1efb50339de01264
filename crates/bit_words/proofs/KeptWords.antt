-- Words of bits: those that other words have too, and words without a bit.
use Rattle.std.proofs.Common.{◌≡◌, ◌≢◌, ℕ, zero, suc, ◌/◌, ◌%◌, ◌^◌, ◌<◌, ◌≤◌, Bool, true, false, ◌&&◌, ◌||◌, List, [], ◌∷◌, length, get_or, refl, sym, ap, ap₂, ◌∙◌, inl, inr, arith, min}
use Rattle.std.specs.{Prelude.{◌==◌, bit_and, bit_or}, Int.{bit_at}}
use Rattle.std.proofs.lemmas.{Bool.{cases_lt}, List.Elements.{All-from_get_or}, Nat.{and_le_l, Bits.{bit_at_and, bit_at-lt}}}
use Rattle.bit_words.specs.Words.{AreWords, bits_of_words}
use Rattle.bit_words.proofs.{BitCounts.{same_bits, has_either}, WordLaws.{word_has, number_at, number_past, small_at, has_of_words}}
use Rattle.osek_values.specs.Bits.{has_bit}

-- a bit of both words
both_at : (a b : ℕ) → a < 2 → b < 2 → (min a b == 1) ≡ (a == 1 && b == 1)
both_at zero zero h k = refl
both_at zero (suc zero) h k = refl
both_at (suc zero) zero h k = refl
both_at (suc zero) (suc zero) h k = refl
both_at zero (suc (suc b)) h k = absurd (omega (arith, k))
both_at (suc zero) (suc (suc b)) h k = absurd (omega (arith, k))
both_at (suc (suc a)) b h k = absurd (omega (arith, h))

pub has_both : (a b k : ℕ) → has_bit (bit_and a b) k ≡ (has_bit a k && has_bit b k)
has_both a b k = ap (λ n. n == 1) (bit_at_and a b k) ∙ both_at (bit_at a k) (bit_at b k) (bit_at-lt a k) (bit_at-lt b k)

-- a number all of whose bits the other has is kept whole
pub kept_whole : (m n : ℕ) → n ≡ bit_or n m → bit_and m n ≡ m
kept_whole m n has = same_bits (bit_and m n) m (λ k. has_both m n k ∙ within (has_bit m k) (has_bit n k) (ap (λ (i : ℕ). has_bit i k) has ∙ has_either n m k))
  where
    within : (a b : Bool) → b ≡ (b || a) → (a && b) ≡ a
    within false b e = refl
    within true true e = refl
    within true false e = absurd (cc)

-- words of which those up to a place were cut to the bits of the others
pub record AreKeptUpTo (before other : List ℕ) (k : ℕ) (now : List ℕ) : Type 0 where
  pub as_long : length now ≡ length before
  pub cut : (i : ℕ) → i < k → get_or now i 0 ≡ bit_and (get_or before i 0) (get_or other i 0)
  pub kept : (i : ℕ) → k ≤ i → get_or now i 0 ≡ get_or before i 0

module _ (before other now : List ℕ) (k : ℕ) (whole : length before ≤ k) (h : AreKeptUpTo before other k now) where
  all_cut : (n : ℕ) → word_has now n ≡ (word_has before n && word_has other n)
  all_cut n = elim (cases_lt (n / 64) k) [
    | inl lt ↦
        number_at now n ∙ ap (λ w. has_bit w (n % 64)) (h.cut (n / 64) lt) ∙ has_both (get_or before (n / 64) 0) (get_or other (n / 64) 0) (n % 64)
        ∙ ap₂ (λ (a b : Bool). a && b) (sym (number_at before n)) (sym (number_at other n))
    | inr le ↦ number_past now n (omega (arith, whole, le, h.as_long)) ∙ ap (λ (b : Bool). b && word_has other n) (sym (number_past before n (omega (arith, whole, le))))
  ]

  cut_words : AreWords before → AreWords now
  cut_words small = All-from_get_or (λ v. v < 2 ^ 64) now 0 (λ i lt. (
      let at = h.cut i (omega (arith, lt, h.as_long, whole)) in
      let less = and_le_l (get_or before i 0) (get_or other i 0) in
      omega (arith, at, less, small_at before i small)))

  pub bits_cut : AreWords before → AreWords other → bits_of_words now ≡ bit_and (bits_of_words before) (bits_of_words other)
  bits_cut small its = same_bits (bits_of_words now) (bit_and (bits_of_words before) (bits_of_words other)) (λ n.
      has_of_words now n (cut_words small) ∙ all_cut n
      ∙ sym (has_both (bits_of_words before) (bits_of_words other) n ∙ ap₂ (λ (a b : Bool). a && b) (has_of_words before n small) (has_of_words other n its)))

-- ---- words without a bit

pub no_bits : (ws : List ℕ) → ((i : ℕ) → i < length ws → get_or ws i 0 ≡ 0) → bits_of_words ws ≡ 0
unfolding bits_of_words
no_bits [] none = refl
no_bits (w ∷ ws) none =
    let first : w ≡ 0 = none 0 (omega arith) in
    let rest = no_bits ws (λ i lt. none (suc i) (omega (arith, lt))) in
    omega (arith, first, rest)

pub some_bits : (ws : List ℕ) (i : ℕ) → i < length ws → get_or ws i 0 ≢ 0 → bits_of_words ws ≢ 0
unfolding bits_of_words
some_bits [] i lt some e = absurd (omega (arith, lt))
some_bits (w ∷ ws) zero lt some e = (let none : w ≡ 0 = omega (arith, e) in some none)
some_bits (w ∷ ws) (suc i) lt some e = (let none : bits_of_words ws ≡ 0 = omega (arith, e) in some_bits ws i (omega (arith, lt)) some none)
