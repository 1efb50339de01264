-- Lists in strict order, and one more element behind them.
use Rattle.std.proofs.Common.{◌≡◌, List, [], ◌∷◌, ◌++◌}
use Rattle.std.specs.{List.{AllByRecursion, Sorted.{IsStrictlySortedBy}}, declared.cmp.Ordering.{Ordering, TheVariants.{Less}}}

module _ {X : Type 0} where
  all_prefix : (P : X → Type 0) (xs ys : List X) → AllByRecursion P (xs ++ ys) → AllByRecursion P xs
  all_prefix P [] ys all = tt
  all_prefix P (x ∷ xs) ys all = (all.0, all_prefix P xs ys all.1)

  all_back : (P : X → Type 0) (xs ys : List X) → AllByRecursion P (xs ++ ys) → AllByRecursion P ys
  all_back P [] ys all = all
  all_back P (x ∷ xs) ys all = all_back P xs ys all.1

  pub all_push : (P : X → Type 0) (xs : List X) (y : X) → AllByRecursion P xs → P y → AllByRecursion P (xs ++ y ∷ [])
  all_push P [] y all h = (h, tt)
  all_push P (x ∷ xs) y all h = (all.0, all_push P xs y all.1 h)

  module _ (c : X → X → Ordering) where
    abbrev pub Before : X → X → Type 0
    Before y x = c x y ≡ Less

    pub sorted_prefix : (xs ys : List X) → IsStrictlySortedBy c (xs ++ ys) → IsStrictlySortedBy c xs
    unfolding IsStrictlySortedBy
    sorted_prefix [] ys up = tt
    sorted_prefix (x ∷ xs) ys up = (all_prefix (λ (y : X). c x y ≡ Less) xs ys up.0, sorted_prefix xs ys up.1)

    pub sorted_push : (xs : List X) (y : X) → IsStrictlySortedBy c xs → AllByRecursion (Before y) xs → IsStrictlySortedBy c (xs ++ y ∷ [])
    unfolding IsStrictlySortedBy
    sorted_push [] y up below = (tt, tt)
    sorted_push (x ∷ xs) y up below = (all_push (λ (z : X). c x z ≡ Less) xs y up.0 below.0, sorted_push xs y up.1 below.1)

    pub sorted_last : (xs : List X) (y : X) → IsStrictlySortedBy c (xs ++ y ∷ []) → AllByRecursion (Before y) xs
    unfolding IsStrictlySortedBy
    sorted_last [] y up = tt
    sorted_last (x ∷ xs) y up = ((all_back (λ (z : X). c x z ≡ Less) xs (y ∷ []) up.0).0, sorted_last xs y up.1)
