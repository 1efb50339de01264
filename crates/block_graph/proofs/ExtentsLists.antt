-- Lists: each element of a joined list, elements that differ in pairs, and tests of elements.
use Rattle.std.proofs.Common.{◌≡◌, ℕ, List, [], ◌∷◌, ◌++◌, map, Bool, true, false, refl, inl, inr}
use Rattle.std.specs.{Prelude.{Option, Some, None, is_some}, List.{AllByRecursion, IsDistinct, list_any, position}}
use Rattle.std.proofs.lemmas.{Bool.{or_cases, or_left, or_right, or_parts}, List.{Folds.{list_any_at}, Quantifiers.{position-Some}}}
use Rattle.osek_values.proofs.Lists.{each_append}

-- ---- each element

-- the element behind a front
pub behind_front : {X : Type 0} (P : X → Type 0) (front : List X) (x : X) (more : List X) → AllByRecursion P (front ++ x ∷ more) → P x
behind_front P [] x more h = h.0
behind_front P (y ∷ front) x more h = behind_front P front x more h.1

-- ---- elements that differ in pairs

pub distinct_append : {K : Type 0} (eq : K → K → Bool) (xs ys : List K) → IsDistinct eq xs → IsDistinct eq ys → AllByRecursion (λ (x : K). AllByRecursion (λ (y : K). eq x y ≡ false) ys) xs → IsDistinct eq (xs ++ ys)
unfolding IsDistinct
distinct_append eq [] ys d e apart = e
distinct_append {K = K} eq (x ∷ xs) ys d e apart = (each_append (λ (y : K). eq x y ≡ false) xs ys d.0 apart.0, distinct_append eq xs ys d.1 e apart.1)

-- what the keys differ by, the values do
module _ {X K V : Type 0} (key : X → K) (value : X → V) (same : K → K → Bool) (meets : V → V → Bool) (P : X → Type 0) (apart : (x y : X) → P x → P y → same (key x) (key y) ≡ false → meets (value x) (value y) ≡ false) where
  apart_from : (x : X) (xs : List X) → P x → AllByRecursion P xs → AllByRecursion (λ (k : K). same (key x) k ≡ false) (map key xs) → AllByRecursion (λ (v : V). meets (value x) v ≡ false) (map value xs)
  apart_from x [] p ps h = tt
  apart_from x (y ∷ xs) p ps h = (apart x y p ps.0 h.0, apart_from x xs p ps.1 h.1)

  pub distinct_values : (xs : List X) → AllByRecursion P xs → IsDistinct same (map key xs) → IsDistinct meets (map value xs)
  unfolding IsDistinct
  distinct_values [] ps d = tt
  distinct_values (x ∷ xs) ps d = (apart_from x xs ps.0 ps.1 d.0, distinct_values xs ps.1 d.1)

-- ---- tests

-- no element passes
pub none_of : {X : Type 0} (p : X → Bool) (xs : List X) → list_any p xs ≡ false → AllByRecursion (λ (x : X). p x ≡ false) xs
none_of p [] e = tt
none_of p (x ∷ xs) e = let parts = or_parts (p x) (list_any p xs) e in (parts.0, none_of p xs parts.1)

-- an element that passes one test passes the other
pub any_weaker : {X : Type 0} (p q : X → Bool) (xs : List X) → ((x : X) → p x ≡ true → q x ≡ true) → list_any p xs ≡ true → list_any q xs ≡ true
any_weaker p q [] f e = e
any_weaker p q (x ∷ xs) f e =
    elim (or_cases (p x) (list_any p xs) e) [
      | inl here ↦ or_left (q x) (list_any q xs) (f x here)
      | inr later ↦ or_right (q x) (list_any q xs) (any_weaker p q xs f later)
    ]

pub any_append_left : {X : Type 0} (p : X → Bool) (xs ys : List X) → list_any p xs ≡ true → list_any p (xs ++ ys) ≡ true
any_append_left p [] ys e = absurd cc
any_append_left p (x ∷ xs) ys e =
    elim (or_cases (p x) (list_any p xs) e) [
      | inl here ↦ or_left (p x) (list_any p (xs ++ ys)) here
      | inr later ↦ or_right (p x) (list_any p (xs ++ ys)) (any_append_left p xs ys later)
    ]

pub any_append_right : {X : Type 0} (p : X → Bool) (xs ys : List X) → list_any p ys ≡ true → list_any p (xs ++ ys) ≡ true
any_append_right p [] ys e = e
any_append_right p (x ∷ xs) ys e = or_right (p x) (list_any p (xs ++ ys)) (any_append_right p xs ys e)

-- what has a position passes
placed : {X : Type 0} (p : X → Bool) (xs : List X) (d : X) (at : Option ℕ) → position p xs ≡ at → is_some at ≡ true → list_any p xs ≡ true
placed p xs d None e is = absurd cc
placed p xs d (Some i) e is = let at = position-Some p xs i d e in list_any_at p xs i d at.0 at.1

pub any_from_position : {X : Type 0} (p : X → Bool) (xs : List X) → is_some (position p xs) ≡ true → list_any p xs ≡ true
any_from_position p [] e = absurd cc
any_from_position p (x ∷ xs) e = placed p (x ∷ xs) x (position p (x ∷ xs)) refl e
