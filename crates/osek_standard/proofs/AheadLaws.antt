-- The order by a priority and then a number.
use Rattle.std.proofs.{Common.{◌≡◌, ◌≢◌, ℕ, ◌<◌, ◌||◌, ◌&&◌, Bool, true, ◌⊎◌, inl, inr, arith, nat_eq, nat_lt, nat_le}, lemmas.Bool.{cases_Bool, cases_lt, Decides.{nat_tests}}}

-- ahead of a priority and a number: higher, or the same priority and not after
abbrev pub ahead : ℕ → ℕ → ℕ → ℕ → Bool
ahead p t q u = nat_lt q p || (nat_eq p q && nat_le t u)

pub either_ahead : (p t q u : ℕ) → (ahead p t q u ≡ true) ⊎ (ahead q u p t ≡ true)
either_ahead p t q u = elim (cases_Bool (ahead p t q u)) [ inl e ↦ inl e | inr e ↦ inr (grind (arith, nat_tests)) ]

pub once_ahead : (p t q u : ℕ) → ahead p t q u ≡ true → ahead q u p t ≡ true → t ≡ u
once_ahead p t q u e f = grind (arith, nat_tests)

pub onward_ahead : (p t q u r v : ℕ) → ahead p t q u ≡ true → ahead q u r v ≡ true → ahead p t r v ≡ true
onward_ahead p t q u r v e f = grind (arith, nat_tests)

pub ahead_apart : (p t q u : ℕ) → ahead p t q u ≡ true → u ≢ t → (q < p) ⊎ ((q ≡ p) × (t < u))
ahead_apart p t q u e other = elim (cases_lt q p) [
  | inl h ↦ inl h
  | inr h ↦ inr (grind (arith, nat_tests), grind (arith, nat_tests))
]

pub apart_ahead : (p t q u : ℕ) → (q < p) ⊎ ((q ≡ p) × (t < u)) → ahead p t q u ≡ true
apart_ahead p t q u (inl h) = grind (arith, nat_tests)
apart_ahead p t q u (inr h) = let same : q ≡ p = h.0 in let less : t < u = h.1 in grind (arith, nat_tests)

pub ahead_of_itself : (p t : ℕ) → ahead p t p t ≡ true
ahead_of_itself p t = grind (arith, nat_tests)
