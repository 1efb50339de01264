-- How many stacks there are at most, and how high the states of tasks.
use Rattle.std.proofs.{Common.{◌≡◌, ℕ, zero, suc, ◌+◌, ◌*◌, ◌<◌, ◌≤◌, sym, ◌∙◌, ap, subst, inl, inr, arith}, lemmas.Bool.{cases_eq}, Math.Nat.{add-mul, mul-le-mul}}
use Rattle.osek_standard.specs.Counts.{stacks}

stacks_grow : (n : ℕ) → stacks n ≤ stacks (suc n)
stacks_grow n =
    let next : suc n ≡ n + 1 = omega arith in
    let e : suc n * stacks n ≡ n * stacks n + 1 * stacks n = ap (λ (m : ℕ). m * stacks n) next ∙ add-mul n 1 (stacks n) in
    omega (arith, e)

stacks_up : (m n : ℕ) → n ≤ m → stacks n ≤ stacks m
stacks_up zero n h = let none : n ≡ 0 = omega (arith, h) in subst (λ (k : ℕ). stacks k ≤ stacks 0) (sym none) (omega arith)
stacks_up (suc m) n h = elim (cases_eq n (suc m)) [
  | inl same ↦ subst (λ (k : ℕ). stacks k ≤ stacks (suc m)) (sym same) (omega arith)
  | inr other ↦ (let below : n ≤ m = omega (arith, h, other) in omega (arith, stacks_up m n below, stacks_grow m))
]

-- out of eight resources at most
pub few_stacks : (n : ℕ) → n ≤ 8 → stacks n ≤ 109601
few_stacks n h = stacks_up 8 n h

-- one more resource: a stack of this one above each stack of the others, and the empty one
pub more_stacks : (n : ℕ) → 1 + (n + 1) * stacks n ≡ stacks (n + 1)
more_stacks n = let next : n + 1 ≡ suc n = omega arith in
    ap (λ (m : ℕ). 1 + m * stacks n) next ∙ ap (λ (m : ℕ). stacks m) (sym next)

-- so many resources and stacks, multiplied
pub few_products : (n s : ℕ) → n < 8 → s ≤ 109601 → (n + 1) * s ≤ 876808
few_products n s h k = let fewer : n + 1 ≤ 8 = omega (arith, h) in omega (arith, mul-le-mul {n₁ = n + 1} {m₁ = s} {n₂ = 8} {m₂ = 109601} fewer k)

-- so many blocks, stacks and activations, multiplied
pub few_live : (count stacks activation : ℕ) → count ≤ 65535 → stacks ≤ 109601 → activation ≤ 255 → (count * stacks ≤ 7182701535) × (count * stacks * activation ≤ 1831588891425)
few_live count stacks activation h k m =
    let both : count * stacks ≤ 7182701535 = omega (arith, mul-le-mul {n₁ = count} {m₁ = stacks} {n₂ = 65535} {m₂ = 109601} h k) in
    (both, omega (arith, mul-le-mul {n₁ = count * stacks} {m₁ = activation} {n₂ = 7182701535} {m₂ = 255} both m))
