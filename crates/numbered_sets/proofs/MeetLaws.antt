-- The numbers that two sets have in common, and those that one has and the other lacks.
use Rattle.std.proofs.Common.{◌≡◌, ◌≢◌, ℕ, Bool, true, ◌&&◌, not, sym, ap, ◌∙◌, arith, IsTrue}
use Rattle.std.specs.Prelude.{◌==◌, bit_and}
use Rattle.std.proofs.lemmas.Bool.{and_parts, eq-eqb}
use Rattle.bit_words.proofs.{KeptWords.{has_both}, OtherWords.{has_alone, met}}
use Rattle.osek_values.specs.Bits.{has_bit}
use Rattle.numbered_sets.specs.Numbers.{Numbers, has_number, kept_numbers, other_numbers, meets}
use Rattle.numbered_sets.proofs.{ViewLaws.{below_power}, KnownNumbers.{no_bit_of_none}, SiftLaws.{some_bit}}

pub has_kept : (x y : Numbers) (n : ℕ) → has_number (kept_numbers x y) n ≡ (has_number x n && has_number y n)
has_kept x y n = has_both x.bits y.bits n

pub has_other : (x y : Numbers) (n : ℕ) → has_number (other_numbers x y) n ≡ (has_number x n && not (has_number y n))
has_other x y n = has_alone x.bits y.bits n

-- a number of both
pub record HaveCommon (x y : Numbers) : Type 0 where
  pub number : ℕ
  pub first : IsTrue (has_number x number)
  pub second : IsTrue (has_number y number)

some_common : (m : ℕ) → not (m == 0) ≡ true → m ≢ 0
some_common m some none = (let zero = ap not (eq-eqb m 0 none) in absurd (cc))

pub common_of : (x y : Numbers) → IsTrue (meets x y) → HaveCommon x y
common_of x y h =
    let m = bit_and x.bits y.bits in
    let some = some_common m h in
    let bit = some_bit m m (below_power m) (omega (arith, some)) in
    let both = and_parts (has_number x bit.0) (has_number y bit.0) (sym (has_both x.bits y.bits bit.0) ∙ bit.1) in
    record { number = bit.0; first = both.0; second = both.1 }

pub meets_at : (x y : Numbers) (n : ℕ) → IsTrue (has_number x n) → IsTrue (has_number y n) → IsTrue (meets x y)
meets_at x y n first second =
    let there : has_bit (bit_and x.bits y.bits) n ≡ true = has_both x.bits y.bits n ∙ ap (λ (b : Bool). b && has_number y n) first ∙ second in
    sym (met (bit_and x.bits y.bits) (λ none. no_bit_of_none n (sym (ap (λ (m : ℕ). has_bit m n) none) ∙ there)))
