-- Bits past the end of a number.
use Rattle.std.proofs.Common.{◌≡◌, ℕ, ◌<◌, ◌≤◌, ◌^◌, ◌%◌, false, ap, arith}
use Rattle.std.specs.Prelude.{◌==◌}
use Rattle.std.proofs.Math.Nat.{pow-le-pow_right, div-eq_of_lt}
use Rattle.osek_values.specs.Bits.{has_bit}

-- a number of 64 bits has no bit past them
pub no_such_bit : (n k : ℕ) → n < 2 ^ 64 → 64 ≤ k → has_bit n k ≡ false
no_such_bit n k few past =
    let more : 2 ^ 64 ≤ 2 ^ k = pow-le-pow_right (omega arith) past in
    ap (λ (i : ℕ). (i % 2) == 1) (div-eq_of_lt (omega (arith, few, more)))
