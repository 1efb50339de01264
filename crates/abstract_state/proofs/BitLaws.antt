-- A number with the bits that a test passes.
use Rattle.std.proofs.{Common.{◌≡◌, ℕ, zero, suc, ◌+◌, ◌-◌, ◌*◌, ◌/◌, ◌%◌, ◌^◌, ◌<◌, ◌≤◌, Bool, true, false, refl, sym, ap, ap₂, subst, ◌∙◌, inl, inr, arith, min}, Math.Nat.{pow-suc}}
use Rattle.std.specs.{Prelude.{if◌then◌else◌, ◌==◌, bit_and}, Int.{bit_at}}
use Rattle.std.proofs.lemmas.{Bool.{cases_lt, eqb-true}, Nat.Bits.{bit_at_lowest, bit_at-suc, bit_at-zero, bit_at_and, same_from_bits}}
use Rattle.osek_values.specs.Bits.{has_bit}
use Rattle.abstract_state.specs.Concrete.{bits_number}

half : (b : Bool) (m : ℕ) → ((if b then 1 else 0) + 2 * m) / 2 ≡ m
half true m = omega arith
half false m = omega arith

lowest : (b : Bool) (m : ℕ) → ((if b then 1 else 0) + 2 * m) % 2 ≡ (if b then 1 else 0)
lowest true m = omega arith
lowest false m = omega arith

-- its bits below the width are the test's
bit_of_number : (f : ℕ → Bool) (w k : ℕ) → k < w → bit_at (bits_number f w) k ≡ (if f k then 1 else 0)
bit_of_number f zero k lt = absurd (omega (arith, lt))
bit_of_number f (suc w) zero lt = bit_at_lowest (bits_number f (suc w)) ∙ lowest (f 0) (bits_number (λ i. f (suc i)) w)
bit_of_number f (suc w) (suc k) lt =
    bit_at-suc (bits_number f (suc w)) k
    ∙ ap (λ n. bit_at n k) (half (f 0) (bits_number (λ i. f (suc i)) w))
    ∙ bit_of_number (λ i. f (suc i)) w k (omega (arith, lt))

-- and there are no more
bit_past : (f : ℕ → Bool) (w k : ℕ) → w ≤ k → bit_at (bits_number f w) k ≡ 0
bit_past f zero k le = bit_at-zero k
bit_past f (suc w) zero le = absurd (omega (arith, le))
bit_past f (suc w) (suc k) le =
    bit_at-suc (bits_number f (suc w)) k
    ∙ ap (λ n. bit_at n k) (half (f 0) (bits_number (λ i. f (suc i)) w))
    ∙ bit_past (λ i. f (suc i)) w k (omega (arith, le))

test_of_flag : (b : Bool) → ((if b then 1 else 0) == 1) ≡ b
test_of_flag true = refl
test_of_flag false = refl

pub has_bit_of_number : (f : ℕ → Bool) (w k : ℕ) → k < w → has_bit (bits_number f w) k ≡ f k
has_bit_of_number f w k lt = ap (λ n. n == 1) (bit_of_number f w k lt) ∙ test_of_flag (f k)

-- a number whose bits are another's has none beside these
within_at : (b : Bool) (own : ℕ) → (b ≡ true → own ≡ 1) → min (if b then 1 else 0) own ≡ (if b then 1 else 0)
within_at true own h = let e : own ≡ 1 = h refl in omega (arith, e)
within_at false own h = omega arith

one_of_test : (n : ℕ) → (n == 1) ≡ true → n ≡ 1
one_of_test n e = eqb-true n 1 e

pub number_within : (f : ℕ → Bool) (w own : ℕ) → ((k : ℕ) → f k ≡ true → has_bit own k ≡ true) → bit_and (bits_number f w) own ≡ bits_number f w
number_within f w own h = same_from_bits _ _ (λ k.
    bit_at_and (bits_number f w) own k ∙ elim (cases_lt k w) [
      | inl below ↦
          (let e = bit_of_number f w k below in
          subst (λ n. min n (bit_at own k) ≡ n) (sym e) (within_at (f k) (bit_at own k) (λ yes. one_of_test (bit_at own k) (h k yes))))
      | inr above ↦
          (let e = bit_past f w k above in
          subst (λ n. min n (bit_at own k) ≡ n) (sym e) (omega arith))
    ])

pub no_bit_past : (f : ℕ → Bool) (w k : ℕ) → w ≤ k → has_bit (bits_number f w) k ≡ false
no_bit_past f w k le = ap (λ n. n == 1) (bit_past f w k le)

few_by : (b : Bool) (w m : ℕ) → m < 2 ^ w → (if b then 1 else 0) + 2 * m < 2 ^ suc w
few_by true w m lt = omega (arith, lt, pow-suc 2 w)
few_by false w m lt = omega (arith, lt, pow-suc 2 w)

-- it is small
pub number_few : (f : ℕ → Bool) (w : ℕ) → bits_number f w < 2 ^ w
number_few f zero = omega arith
number_few f (suc w) = few_by (f 0) w (bits_number (λ i. f (suc i)) w) (number_few (λ i. f (suc i)) w)

pub same_number : (f g : ℕ → Bool) (w : ℕ) → ((k : ℕ) → f k ≡ g k) → bits_number f w ≡ bits_number g w
same_number f g zero h = refl
same_number f g (suc w) h = ap₂ (λ (b : Bool) (n : ℕ). (if b then 1 else 0) + 2 * n) (h 0) (same_number (λ i. f (suc i)) (λ i. g (suc i)) w (λ k. h (suc k)))

-- with one more bit below
pub number_below : (f : ℕ → Bool) (r n bits one : ℕ) → 0 < r → r ≤ n → bits ≡ bits_number (λ k. f (r + k)) (n - r) → one ≡ (if f (r - 1) then 1 else 0)
    → 2 * bits + one ≡ bits_number (λ k. f (r - 1 + k)) (n - (r - 1))
number_below f r n bits one some most is e =
    let width : n - (r - 1) ≡ suc (n - r) = omega (arith, some, most) in
    subst (λ w. 2 * bits + one ≡ bits_number (λ k. f (r - 1 + k)) w) (sym width)
    (let low : (if f (r - 1 + 0) then 1 else 0) ≡ one = ap (λ (k : ℕ). if f k then 1 else 0) (omega arith) ∙ sym e in
    let high : bits_number (λ k. f (r - 1 + suc k)) (n - r) ≡ bits_number (λ k. f (r + k)) (n - r)
    = same_number (λ k. f (r - 1 + suc k)) (λ k. f (r + k)) (n - r) (λ k. ap f (omega (arith, some))) in
    omega (arith, is, high, low))
