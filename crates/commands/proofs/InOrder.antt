-- A list that is in order is one by its elements.
use Rattle.std.proofs.Common.{◌≡◌, zero, suc, List, [], ◌∷◌, refl, sym, subst, ap₂, ◌∙◌, ◌⊎◌, inl, inr, arith}
use Rattle.std.specs.{Prelude.{Contains}, List.{AllPairs}}

module _ {X : Type 0} (Before : X → X → Type 0) (not_both : (x y : X) → Before x y → Before y x → ⊥) where
  first_before : (x y : X) (xs : List X) → AllPairs Before (x ∷ xs) → Contains xs y → Before x y
  first_before x y xs up h = subst (Before x) h.2 (up 0 (suc h.0) y (omega arith) (omega (arith, h.1)))

  in_tail : (x : X) (xs : List X) → AllPairs Before (x ∷ xs) → AllPairs Before xs
  in_tail x xs up i j d lt below = up (suc i) (suc j) d (omega (arith, lt)) (omega (arith, below))

  first_or_behind : (x y : X) (xs : List X) → Contains (x ∷ xs) y → (x ≡ y) ⊎ Contains xs y
  first_or_behind x y xs (zero, lt, is) = inl is
  first_or_behind x y xs (suc k, lt, is) = inr (k, omega (arith, lt), is)

  same_first : (x y : X) (xs ys : List X) → AllPairs Before (x ∷ xs) → AllPairs Before (y ∷ ys) → (y ≡ x) ⊎ Contains ys x → (x ≡ y) ⊎ Contains xs y → x ≡ y
  same_first x y xs ys up too (inl e) b = sym e
  same_first x y xs ys up too (inr h) (inl e) = e
  same_first x y xs ys up too (inr h) (inr k) = absurd (not_both x y (first_before x y xs up k) (first_before y x ys too h))

  also_behind : (x y z : X) (xs ys : List X) → x ≡ y → AllPairs Before (x ∷ xs) → Contains xs z → (y ≡ z) ⊎ Contains ys z → Contains ys z
  also_behind x y z xs ys e up h (inl is) = absurd (let after : Before x x = subst (Before x) (sym (e ∙ is)) (first_before x z xs up h) in not_both x x after after)
  also_behind x y z xs ys e up h (inr there) = there

  pub one_in_order : (xs ys : List X) → AllPairs Before xs → AllPairs Before ys → ((x : X) → Contains xs x → Contains ys x) → ((x : X) → Contains ys x → Contains xs x) → xs ≡ ys
  one_in_order [] [] up too f g = refl
  one_in_order [] (y ∷ ys) up too f g = absurd (let none = (g y (0, omega arith, refl)).1 in omega (arith, none))
  one_in_order (x ∷ xs) [] up too f g = absurd (let none = (f x (0, omega arith, refl)).1 in omega (arith, none))
  one_in_order (x ∷ xs) (y ∷ ys) up too f g =
      let first : x ≡ y = same_first x y xs ys up too (first_or_behind y x ys (f x (0, omega arith, refl))) (first_or_behind x y xs (g y (0, omega arith, refl))) in
      ap₂ (λ z zs. z ∷ zs) first
      (one_in_order xs ys (in_tail x xs up) (in_tail y ys too)
      (λ z h. also_behind x y z xs ys first up h (first_or_behind y z ys (f z (suc h.0, omega (arith, h.1), h.2))))
      (λ z h. also_behind y x z ys xs (sym first) too h (first_or_behind x z xs (g z (suc h.0, omega (arith, h.1), h.2)))))
