-- A list is parted at each element that passes a test.
use Rattle.std.proofs.Common.{◌≡◌, ℕ, ◌+◌, ◌-◌, ◌<◌, ◌≤◌, Bool, true, false, cond, not, nat_lt, List, [], ◌∷◌, length, take, drop, Some, None, unwrap_or, refl, ap, arith, one-add, take_all}
use Rattle.std.specs.List.{slice_split, onto_first, position, position_or_len}
use Rattle.std.proofs.lemmas.List.{length-drop}
use borrow.Author.Tests.{ltb-true, ltb-false}

found : (b : Bool) (k j : ℕ) → cond b (Some k) None ≡ Some j → (b ≡ true) × (k ≡ j)
found true k j e = (refl, cc)
found false k j e = absurd (cc)

not_found : (b : Bool) (k : ℕ) → cond b (Some k) None ≡ None → b ≡ false
not_found true k e = cc
not_found false k e = refl

unwrap_by : (b : Bool) (k n : ℕ) → nat_lt k n ≡ b → k ≤ n → unwrap_or (cond b (Some k) None) n ≡ k
unwrap_by true k n e h = refl
unwrap_by false k n e h = let beyond : n ≤ k = ltb-false k n e in omega (arith, beyond, h)

-- the parts behind the first one
abbrev pub parts_behind : {X : Type 0} → (X → Bool) → List X → List (List X)
parts_behind p [] = []
parts_behind p (x ∷ xs) = slice_split p xs

pub split_ahead : {X : Type 0} (p : X → Bool) (xs : List X) → slice_split p xs ≡ take (position_or_len p xs) xs ∷ parts_behind p (drop (position_or_len p xs) xs)
split_ahead p [] = refl
split_ahead p (x ∷ xs) =
    elim (p x) as (λ b. cond b ([] ∷ slice_split p xs) (onto_first x (slice_split p xs))
    ≡ take (cond (not b) (1 + position_or_len p xs) 0) (x ∷ xs) ∷ parts_behind p (drop (cond (not b) (1 + position_or_len p xs) 0) (x ∷ xs))) [
      | true ↦ refl
      | false ↦ rw one-add (ap (onto_first x) (split_ahead p xs))
    ]

pub whole_tail : {X : Type 0} (n : ℕ) (xs : List X) → take (length xs - n) (drop n xs) ≡ drop n xs
whole_tail n xs = take_all (length xs - n) (drop n xs) (omega (arith, length-drop n xs))

pub position-le : {X : Type 0} (p : X → Bool) (xs : List X) → position_or_len p xs ≤ length xs
position-le p [] = omega arith
position-le p (x ∷ xs) = let h = position-le p xs in
    elim (p x) as (λ b. cond (not b) (1 + position_or_len p xs) 0 ≤ length (x ∷ xs)) [ true ↦ omega arith | false ↦ omega arith ]

-- what `position` answers
pub place_found : {X : Type 0} (p : X → Bool) (xs : List X) (k : ℕ) → position p xs ≡ Some k → position_or_len p xs ≡ k
place_found p xs k e = (found (nat_lt (position_or_len p xs) (length xs)) (position_or_len p xs) k e).1

pub place_below : {X : Type 0} (p : X → Bool) (xs : List X) (k : ℕ) → position p xs ≡ Some k → k < length xs
place_below p xs k e =
    let at = found (nat_lt (position_or_len p xs) (length xs)) (position_or_len p xs) k e in
    let below : position_or_len p xs < length xs = ltb-true (position_or_len p xs) (length xs) at.0 in
    omega (arith, below, at.1)

pub none_found : {X : Type 0} (p : X → Bool) (xs : List X) → position p xs ≡ None → position_or_len p xs ≡ length xs
none_found p xs e =
    let not_below = not_found (nat_lt (position_or_len p xs) (length xs)) (position_or_len p xs) e in
    let at_most = position-le p xs in
    let beyond : length xs ≤ position_or_len p xs = ltb-false (position_or_len p xs) (length xs) not_below in
    omega (arith, beyond, at_most)

pub unwrap_or-position : {X : Type 0} (p : X → Bool) (xs : List X) → unwrap_or (position p xs) (length xs) ≡ position_or_len p xs
unwrap_or-position p xs =
    let at_most = position-le p xs in
    unwrap_by (nat_lt (position_or_len p xs) (length xs)) (position_or_len p xs) (length xs) refl at_most
