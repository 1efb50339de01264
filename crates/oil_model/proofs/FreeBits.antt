-- The lowest free bit, step by step.
use Rattle.std.proofs.Common.{◌≡◌, ℕ, suc, ◌+◌, ◌-◌, ◌*◌, ◌<◌, ◌^◌, ◌%◌, refl, sym, ap, ◌∙◌, arith}
use Rattle.std.specs.Prelude.{bit_and, Bool, if◌then◌else◌, ◌==◌}
use Rattle.std.proofs.{Math.{Pow.{pow-lt}, Nat.{mod-eq_of_lt}}, lemmas.Bool.{eq-eqb, ne_eqb}}
use Rattle.oil_model.specs.Objects.{free_from}

pub shifted : (k : ℕ) → k < 64 → 1 * 2 ^ k % 18446744073709551616 ≡ 2 ^ k
shifted k h = let below : 2 ^ k < 18446744073709551616 = pow-lt h in let one : 1 * 2 ^ k ≡ 2 ^ k = omega arith in ap (λ (n : ℕ). n % 18446744073709551616) one ∙ mod-eq_of_lt below

free_step : (used k n : ℕ) → free_from used k (suc n) ≡ (if bit_and used (2 ^ k) == 0 then 2 ^ k else free_from used (k + 1) n)
unfolding free_from
free_step used k n = refl

pub here : (used k n : ℕ) → bit_and used (2 ^ k) ≡ 0 → free_from used k (suc n) ≡ 2 ^ k
here used k n e = free_step used k n ∙ ap (λ (t : Bool). if t then 2 ^ k else free_from used (k + 1) n) (eq-eqb _ _ e)

pub next : (used k n : ℕ) → (bit_and used (2 ^ k) ≡ 0 → ⊥) → free_from used k (suc n) ≡ free_from used (k + 1) n
next used k n e = free_step used k n ∙ ap (λ (t : Bool). if t then 2 ^ k else free_from used (k + 1) n) (ne_eqb _ _ e)

pub free_here : (used k : ℕ) → k < 64 → bit_and used (1 * 2 ^ k % 18446744073709551616) ≡ 0 → free_from used k (64 - k) ≡ 1 * 2 ^ k % 18446744073709551616
free_here used k h e =
    let left : 64 - k ≡ suc (64 - (k + 1)) = omega arith in
    let is : bit_and used (2 ^ k) ≡ 0 = ap (bit_and used) (sym (shifted k h)) ∙ e in
    ap (free_from used k) left ∙ here used k (64 - (k + 1)) is ∙ sym (shifted k h)

pub free_next : (used k : ℕ) → k < 64 → (bit_and used (1 * 2 ^ k % 18446744073709551616) ≡ 0 → ⊥) → free_from used k (64 - k) ≡ free_from used (k + 1) (64 - (k + 1))
free_next used k h e =
    let left : 64 - k ≡ suc (64 - (k + 1)) = omega arith in
    ap (free_from used k) left ∙ next used k (64 - (k + 1)) (λ is. e (ap (bit_and used) (shifted k h) ∙ is))

pub free_none : (used k : ℕ) → free_from used k 0 ≡ 0
unfolding free_from
free_none used k = refl
