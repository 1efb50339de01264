-- The greatest of a number and of what the elements of a list give.
use Rattle.std.proofs.Common.{ℕ, ◌≤◌, max, List, [], ◌∷◌, ap, inl, inr, arith}
use Rattle.std.specs.List.{fold}
use Rattle.osek_standard.proofs.Members.{Among}

module _ {X : Type 0} (f : X → ℕ) where
  abbrev pub greatest : ℕ → List X → ℕ
  greatest n xs = fold (λ m x. max m (f x)) n xs

  pub greatest_from : (n : ℕ) (xs : List X) → n ≤ greatest n xs
  greatest_from n [] = omega arith
  greatest_from n (x ∷ xs) = omega (arith, greatest_from (max n (f x)) xs)

  pub greatest_of : (n : ℕ) (xs : List X) (x : X) → Among x xs → f x ≤ greatest n xs
  greatest_of n [] x m = absurd m
  greatest_of n (y ∷ xs) x (inl e) = omega (arith, greatest_from (max n (f y)) xs, ap f e)
  greatest_of n (y ∷ xs) x (inr m) = greatest_of (max n (f y)) xs x m
