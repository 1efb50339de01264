-- The bits of words: which are set, and those of words that services make of events.
use Rattle.std.proofs.Common.{◌≡◌, ℕ, zero, suc, ◌+◌, ◌<◌, ◌%◌, ◌^◌, true, false, refl, sym, ap, ◌∙◌, arith, min, max}
use Rattle.std.specs.{Prelude.{◌==◌, if◌then◌else◌, bit_and, bit_or, bit_xor}, Int.{bit_at}}
use Rattle.std.proofs.{Math.Nat.{zero-div}, lemmas.{Bool.{eqb-true, eq-eqb}, Nat.Bits.{bit_at_and, bit_at_or, bit_at_xor, bit_at-lt}}}
use Rattle.osek_values.specs.Bits.{has_bit, bits_of}
use Rattle.osek_standard.proofs.Members.{Among, among_passing, passing_among}

pub bits_among : (n k : ℕ) → k < 64 → has_bit n k ≡ true → Among k (bits_of n)
unfolding bits_of
bits_among n k lt set = among_passing (has_bit n) 64 k lt set

pub among_bits : (n k : ℕ) → Among k (bits_of n) → (has_bit n k ≡ true) × (k < 64)
unfolding bits_of
among_bits n k m = passing_among (has_bit n) 64 k m

-- 0 has no bit
pub no_bit : (k : ℕ) → has_bit 0 k ≡ false
no_bit k = ap (λ (n : ℕ). (n % 2) == 1) (zero-div (2 ^ k))

and_of : (p q : ℕ) → p < 2 → q < 2 → (q == 1) ≡ true → (min p q == 1) ≡ (p == 1)
and_of zero zero hp hq e = refl
and_of zero (suc zero) hp hq e = refl
and_of zero (suc (suc q)) hp hq e = absurd (omega (arith, hq))
and_of (suc zero) zero hp hq e = absurd (cc)
and_of (suc zero) (suc zero) hp hq e = refl
and_of (suc zero) (suc (suc q)) hp hq e = absurd (omega (arith, hq))
and_of (suc (suc p)) q hp hq e = absurd (omega (arith, hp))

and_in : (p q : ℕ) → p < 2 → q < 2 → (min p q == 1) ≡ true → (q == 1) ≡ true
and_in p q hp hq e = let one : min p q ≡ 1 = eqb-true (min p q) 1 e in eq-eqb q 1 (omega (arith, one, hp, hq))

or_of : (p q : ℕ) → p < 2 → q < 2 → (max p q == 1) ≡ (if q == 1 then true else (p == 1))
or_of zero zero hp hq = refl
or_of zero (suc zero) hp hq = refl
or_of (suc zero) zero hp hq = refl
or_of (suc zero) (suc zero) hp hq = refl
or_of zero (suc (suc q)) hp hq = absurd (omega (arith, hq))
or_of (suc zero) (suc (suc q)) hp hq = absurd (omega (arith, hq))
or_of (suc (suc p)) q hp hq = absurd (omega (arith, hp))

clear_of : (p q : ℕ) → p < 2 → q < 2 → ((p + min p q) % 2 == 1) ≡ (if q == 1 then false else (p == 1))
clear_of zero zero hp hq = refl
clear_of zero (suc zero) hp hq = refl
clear_of (suc zero) zero hp hq = refl
clear_of (suc zero) (suc zero) hp hq = refl
clear_of zero (suc (suc q)) hp hq = absurd (omega (arith, hq))
clear_of (suc zero) (suc (suc q)) hp hq = absurd (omega (arith, hq))
clear_of (suc (suc p)) q hp hq = absurd (omega (arith, hp))

module _ (m own k : ℕ) where
  -- a bit of both is one of each
  pub bit_within : has_bit (bit_and m own) k ≡ true → has_bit own k ≡ true
  bit_within e = and_in (bit_at m k) (bit_at own k) (bit_at-lt m k) (bit_at-lt own k) (ap (λ (n : ℕ). n == 1) (sym (bit_at_and m own k)) ∙ e)

  pub own_bit : has_bit own k ≡ true → has_bit (bit_and m own) k ≡ has_bit m k
  own_bit e = ap (λ (n : ℕ). n == 1) (bit_at_and m own k) ∙ and_of (bit_at m k) (bit_at own k) (bit_at-lt m k) (bit_at-lt own k) e

module _ (e m k : ℕ) where
  -- events after others are set, and after others are cleared
  pub bit_set : has_bit (bit_or e m) k ≡ (if has_bit m k then true else has_bit e k)
  bit_set = ap (λ (n : ℕ). n == 1) (bit_at_or e m k) ∙ or_of (bit_at e k) (bit_at m k) (bit_at-lt e k) (bit_at-lt m k)

  pub bit_cleared : has_bit (bit_xor e (bit_and e m)) k ≡ (if has_bit m k then false else has_bit e k)
  bit_cleared =
      ap (λ (n : ℕ). n == 1) (bit_at_xor e (bit_and e m) k ∙ ap (λ (n : ℕ). (bit_at e k + n) % 2) (bit_at_and e m k))
      ∙ clear_of (bit_at e k) (bit_at m k) (bit_at-lt e k) (bit_at-lt m k)
