-- Numbers as sets of bits: their bits tell them apart, and how many there are.
use Rattle.std.proofs.Common.{◌≡◌, ℕ, zero, suc, ◌+◌, ◌^◌, ◌<◌, ◌≤◌, false, ◌||◌, refl, sym, ap, ◌∙◌, inl, inr, arith, max}
use Rattle.std.specs.{Prelude.{◌==◌, bit_or, count_ones}, Int.{bit_at}}
use Rattle.std.proofs.lemmas.{Bool.{cases_eq, eq-eqb, ne_eqb}, Nat.Bits.{bit_at_or, bit_at-lt, bit_at_above, bit_at-pow_same, bit_at-pow_other, same_from_bits}}
use Rattle.bit_words.proofs.Counting.{passing_up}
use Rattle.osek_values.specs.Bits.{has_bit, passing_below}
use Rattle.osek_values.proofs.BitCounts.{bits_counted}

-- a bit of either word
either_at : (a b : ℕ) → a < 2 → b < 2 → (max a b == 1) ≡ (a == 1 || b == 1)
either_at zero zero h k = refl
either_at zero (suc zero) h k = refl
either_at (suc zero) zero h k = refl
either_at (suc zero) (suc zero) h k = refl
either_at zero (suc (suc b)) h k = absurd (omega (arith, k))
either_at (suc zero) (suc (suc b)) h k = absurd (omega (arith, k))
either_at (suc (suc a)) b h k = absurd (omega (arith, h))

pub has_either : (a b k : ℕ) → has_bit (bit_or a b) k ≡ (has_bit a k || has_bit b k)
has_either a b k = ap (λ n. n == 1) (bit_at_or a b k) ∙ either_at (bit_at a k) (bit_at b k) (bit_at-lt a k) (bit_at-lt b k)

same_flag : (a b : ℕ) → a < 2 → b < 2 → (a == 1) ≡ (b == 1) → a ≡ b
same_flag zero zero h k e = refl
same_flag (suc zero) (suc zero) h k e = refl
same_flag zero (suc zero) h k e = absurd (cc)
same_flag (suc zero) zero h k e = absurd (cc)
same_flag zero (suc (suc b)) h k e = absurd (omega (arith, k))
same_flag (suc zero) (suc (suc b)) h k e = absurd (omega (arith, k))
same_flag (suc (suc a)) b h k e = absurd (omega (arith, h))

pub same_bits : (a b : ℕ) → ((k : ℕ) → has_bit a k ≡ has_bit b k) → a ≡ b
same_bits a b h = same_from_bits a b (λ k. same_flag (bit_at a k) (bit_at b k) (bit_at-lt a k) (bit_at-lt b k) (h k))

pub no_bit_past : (n w k : ℕ) → n < 2 ^ w → w ≤ k → has_bit n k ≡ false
no_bit_past n w k lt le = ap (λ b. b == 1) (bit_at_above n w k lt le)

pub has_one : (n k : ℕ) → has_bit (2 ^ n) k ≡ (k == n)
has_one n k = elim (cases_eq k n) [
  | inl same ↦ ap (λ b. b == 1) (ap (bit_at (2 ^ n)) same ∙ bit_at-pow_same n) ∙ sym (eq-eqb k n same)
  | inr differ ↦ ap (λ b. b == 1) (bit_at-pow_other n k differ) ∙ sym (ne_eqb k n differ)
]

pub ones_below : (n w : ℕ) → n < 2 ^ w → passing_below (has_bit n) w ≡ count_ones n
ones_below n w lt =
    let up = passing_up (has_bit n) 0 w in
    let ones = bits_counted (has_bit n) w 0 n lt (λ k less. (let same : 0 + k ≡ k = omega arith in ap (has_bit n) same)) in
    let none : passing_below (has_bit n) 0 ≡ 0 = refl in
    let same : 0 + w ≡ w = omega arith in
    sym (ap (passing_below (has_bit n)) same) ∙ omega (arith, up, ones, none)
