-- How many bits a number has, counted by a test of each.
use Rattle.std.proofs.{Common.{◌≡◌, ℕ, zero, suc, ◌+◌, ◌/◌, ◌%◌, ◌^◌, ◌<◌, Bool, true, false, cond, List, ◌∷◌, length, filter, refl, sym, ap, ◌∙◌, arith}, Math.Nat.{pow-suc}}
use Rattle.std.specs.{Prelude.{◌==◌, count_ones}, List.{range_with_len}}
use Rattle.std.proofs.lemmas.Nat.{ones-le, Bits.{bit_at_lowest, bit_at-suc}}
use lib.Count.{ones_step}
use Rattle.osek_values.specs.Bits.{has_bit}

lowest_counted : (n k : ℕ) → n < 2 → cond (n == 1) (k + 1) k ≡ n + k
lowest_counted zero k lt = omega arith
lowest_counted (suc zero) k lt = omega arith
lowest_counted (suc (suc n)) k lt = absurd (omega (arith, lt))

counted_by : (b : Bool) (a : ℕ) (xs : List ℕ) → length (cond b (a ∷ xs) xs) ≡ cond b (length xs + 1) (length xs)
counted_by true a xs = omega arith
counted_by false a xs = refl

-- of a number below 2 ^ w
pub bits_counted : (test : ℕ → Bool) (w a m : ℕ) → m < 2 ^ w → ((k : ℕ) → k < w → test (a + k) ≡ has_bit m k) → length (filter test (range_with_len a w)) ≡ count_ones m
bits_counted test zero a m lt each =
    omega (arith, ones-le 0 m lt)
bits_counted test (suc w) a m lt each =
    let more = range_with_len (a + 1) w in
    let half : m / 2 < 2 ^ w = omega (arith, lt, pow-suc 2 w) in
    let low : test a ≡ (m % 2 == 1) = ap test (omega arith) ∙ each 0 (omega arith) ∙ ap (λ (n : ℕ). n == 1) (bit_at_lowest m) in
    let rest : length (filter test more) ≡ count_ones (m / 2) =
    bits_counted test w (a + 1) (m / 2) half (λ k less. ap test (omega arith) ∙ each (suc k) (omega (arith, less)) ∙ ap (λ (n : ℕ). n == 1) (bit_at-suc m k)) in
    counted_by (test a) a (filter test more)
    ∙ ap (λ (b : Bool). cond b (length (filter test more) + 1) (length (filter test more))) low
    ∙ lowest_counted (m % 2) (length (filter test more)) (omega arith)
    ∙ ap (λ (n : ℕ). m % 2 + n) rest
    ∙ sym (ones_step m)
