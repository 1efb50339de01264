-- The first element of a list that passes a test: where it is, what it is, and a write in its place.
use Rattle.std.proofs.Common.{◌≡◌, ℕ, zero, suc, ◌+◌, ◌<◌, ◌≤◌, Bool, true, false, not, cond, nat_lt, List, [], ◌∷◌, length, get_or, Some, None, refl, sym, ap, ◌∙◌, arith}
use Rattle.std.proofs.Math.ListN.{set}
use Rattle.std.specs.List.{find, position, position_or_len}
use Rattle.std.proofs.lemmas.Bool.{ltb-true, ltb-false, lt-ltb, le-ltb}

-- the list, but for its first element that passes
abbrev pub update_first : {X : Type 0} → (X → Bool) → (X → X) → List X → List X
update_first test f [] = []
update_first test f (x ∷ xs) = cond (test x) (f x ∷ xs) (x ∷ update_first test f xs)

module _ {X : Type 0} (test : X → Bool) (f : X → X) where
  at_first : (xs : List X) (i : ℕ) (x : X) → i ≡ position_or_len test xs → i < length xs → x ≡ get_or xs i x → set xs i (f x) ≡ update_first test f xs
  at_first [] i x e lt here = absurd (omega arith)
  at_first (y ∷ ys) zero x e lt here =
      elim (test y) as (λ b. 0 ≡ cond (not b) (1 + position_or_len test ys) 0 → f x ∷ ys ≡ cond b (f y ∷ ys) (y ∷ update_first test f ys)) [
        | true ↦ λ _. ap (λ (v : X). f v ∷ ys) here
        | false ↦ λ h. absurd (omega arith)
      ] e
  at_first (y ∷ ys) (suc i) x e lt here =
      elim (test y) as (λ b. suc i ≡ cond (not b) (1 + position_or_len test ys) 0 → y ∷ set ys i (f x) ≡ cond b (f y ∷ ys) (y ∷ update_first test f ys)) [
        | true ↦ λ h. absurd (omega arith)
        | false ↦ λ h. ap (λ (v : List X). y ∷ v) (at_first ys i x (omega arith) (omega arith) here)
      ] e

found_place : (b : Bool) (n i : ℕ) → cond b (Some n) None ≡ Some i → (b ≡ true) × (n ≡ i)
found_place true n i e = (refl, cc)
found_place false n i e = absurd cc

-- what the index of the first that passes is
pub position_at : {X : Type 0} (test : X → Bool) (xs : List X) (i : ℕ) → position test xs ≡ Some i → (i ≡ position_or_len test xs) × (i < length xs)
position_at test xs i e =
    let h = found_place (nat_lt (position_or_len test xs) (length xs)) (position_or_len test xs) i e in
    (sym h.1, omega (arith, ltb-true _ _ h.0, h.1))

position_le : {X : Type 0} (test : X → Bool) (xs : List X) → position_or_len test xs ≤ length xs
position_le test [] = omega arith
position_le test (x ∷ xs) =
    elim (test x) as (λ b. cond (not b) (1 + position_or_len test xs) 0 ≤ suc (length xs)) [ true ↦ omega arith | false ↦ omega (arith, position_le test xs) ]

not_found : (b : Bool) (n : ℕ) → cond b (Some n) None ≡ None → b ≡ false
not_found true n e = absurd cc
not_found false n e = refl

pub position_none : {X : Type 0} (test : X → Bool) (xs : List X) → position test xs ≡ None → position_or_len test xs ≡ length xs
position_none test xs e =
    omega (arith, position_le test xs, ltb-false _ _ (not_found (nat_lt (position_or_len test xs) (length xs)) (position_or_len test xs) e))

-- A write at the index of the first that passes.
pub set_first : {X : Type 0} (test : X → Bool) (f : X → X) (xs : List X) (i : ℕ) (x : X) → position test xs ≡ Some i → x ≡ get_or xs i x → set xs i (f x) ≡ update_first test f xs
set_first test f xs i x e here = let h = position_at test xs i e in at_first test f xs i x h.0 h.1 here

pub find_first : {X : Type 0} (test : X → Bool) (xs : List X) (i : ℕ) (x : X) → position test xs ≡ Some i → x ≡ get_or xs i x → find test xs ≡ Some x
find_first test [] i x e here = absurd (omega (arith, (position_at test [] i e).1))
find_first test (y ∷ ys) zero x e here =
    elim (test y) as (λ b. 0 ≡ cond (not b) (1 + position_or_len test ys) 0 → cond b (Some y) (find test ys) ≡ Some x) [
      | true ↦ λ h. ap Some (sym here)
      | false ↦ λ h. absurd (omega arith)
    ] (position_at test (y ∷ ys) 0 e).0
find_first test (y ∷ ys) (suc i) x e here =
    let h = position_at test (y ∷ ys) (suc i) e in
    elim (test y) as (λ b. suc i ≡ cond (not b) (1 + position_or_len test ys) 0 → cond b (Some y) (find test ys) ≡ Some x) [
      | true ↦ λ g. absurd (omega arith)
      | false ↦ λ g. find_first test ys i x (let k : position_or_len test ys ≡ i = omega arith in rw (k, lt-ltb i (length ys) (omega (arith, h.1))) refl) here
    ] h.0

pub find_none : {X : Type 0} (test : X → Bool) (xs : List X) → position test xs ≡ None → find test xs ≡ None
find_none test [] e = refl
find_none test (y ∷ ys) e =
    elim (test y) as (λ b. cond (not b) (1 + position_or_len test ys) 0 ≡ suc (length ys) → cond b (Some y) (find test ys) ≡ None) [
      | true ↦ λ g. absurd (omega arith)
      | false ↦ λ g. find_none test ys (let k : position_or_len test ys ≡ length ys = omega arith in rw (k, le-ltb (length ys) (length ys) (omega arith)) refl)
    ] (position_none test (y ∷ ys) e)

some_is : {X : Type 0} (x y : X) → Some x ≡ Some y → x ≡ y
some_is x y e = cc

-- What is found passes.
pub find-passes : {X : Type 0} (test : X → Bool) (xs : List X) (y : X) → find test xs ≡ Some y → test y ≡ true
find-passes test [] y e = absurd cc
find-passes test (x ∷ xs) y e =
    elim (test x) as (λ b. test x ≡ b → cond b (Some x) (find test xs) ≡ Some y → test y ≡ true) [
      | true ↦ λ h k. ap test (some_is y x (sym k)) ∙ h
      | false ↦ λ _ k. find-passes test xs y k
    ] refl e
