-- A number that goes up by one within its last digit.
use Rattle.std.proofs.Common.{◌≡◌, ℕ, ◌+◌, ◌-◌, ◌/◌, ◌%◌, ◌<◌, ◌≤◌, ◌^◌, List, [], ◌∷◌, ◌++◌, length, take, set, sym, ◌∙◌, ap, arith, inl, inr}
use Rattle.std.specs.Fmt.{decimal}
use Rattle.std.proofs.{lemmas.{Bool.{cases_lt}, Fmt.{decimal_digit, decimal_step, decimal_nonempty}, List.{length-take-le, length-append, set_at}}, Math.Seq.{take-set-lt}}

-- the digits in front of the last one are the same
record Parted (n m : ℕ) : Type 0 where
  prefix : List ℕ
  old : decimal n ≡ prefix ++ (48 + n % 10) ∷ []
  new : decimal m ≡ prefix ++ (48 + m % 10) ∷ []

parted : (n m : ℕ) → m < 2 ^ 64 → n + 1 ≡ m → 0 < m % 10 → Parted n m
parted n m fits e low = elim (cases_lt n 10) [
  | inl few ↦ (let old : n ≡ n % 10 = omega (arith, few) in
      let new : m ≡ m % 10 = omega (arith, few, e, low) in
      record {
        prefix = [];
        old = decimal_digit n few ∙ ap (λ (d : ℕ). (48 + d) ∷ []) old;
        new = decimal_digit m (omega (arith, few, e, low)) ∙ ap (λ (d : ℕ). (48 + d) ∷ []) new;
      })
  | inr many ↦ (let same : m / 10 ≡ n / 10 = omega (arith, e, low) in
      record {
        prefix = decimal (n / 10);
        old = decimal_step n many (omega (arith, fits, e));
        new = decimal_step m (omega (arith, many, e)) fits ∙ ap (λ (k : ℕ). decimal k ++ (48 + m % 10) ∷ []) same;
      })
]

pub some_digit : (digits : List ℕ) (size n : ℕ) → n < 2 ^ 64 → size ≤ length digits → take size digits ≡ decimal n → 1 ≤ size
some_digit digits size n fits within is = omega (arith, decimal_nonempty n fits, ap length is, length-take-le size digits within)

pub counted : (digits : List ℕ) (size n m : ℕ) → m < 2 ^ 64 → n + 1 ≡ m → 0 < m % 10 → size ≤ length digits → take size digits ≡ decimal n →
    take size (set digits (size - 1) (48 + m % 10)) ≡ decimal m
counted digits size n m fits e low within is =
    let p = parted n m fits e low in
    let text : take size digits ≡ p.prefix ++ (48 + n % 10) ∷ [] = is ∙ p.old in
    let count : size ≡ length p.prefix + 1 = omega (arith, length-take-le size digits within, ap length text, length-append p.prefix ((48 + n % 10) ∷ [])) in
    take-set-lt size digits (size - 1) (48 + m % 10) (omega (arith, count))
    ∙ ap (λ (l : List ℕ). set l (size - 1) (48 + m % 10)) text
    ∙ set_at p.prefix (48 + n % 10) [] (48 + m % 10) (size - 1) (omega (arith, count))
    ∙ sym p.new
