-- Lists of verbs: what holds of one that is found, where it is computed of each.
use Rattle.std.proofs.Common.{◌≡◌, Bool, true, false, ◌||◌, List, [], ◌∷◌, map, refl}
use Rattle.std.specs.List.{list_any}

pub or_else : (a b : Bool) {P : Type 0} → (a || b) ≡ true → (a ≡ true → P) → (b ≡ true → P) → P
or_else true b e left right = left refl
or_else false b e left right = right e

-- P is true of each of the list
abbrev pub Each : {X : Type 0} → (X → Type 0) → List X → Type 0
Each P [] = Unit {0}
Each P (x ∷ xs) = P x × Each P xs

pub any_of_each : {X : Type 0} (p : X → Bool) (P : X → Type 0) {Q : Type 0} (xs : List X) → Each P xs → list_any p xs ≡ true → ((x : X) → p x ≡ true → P x → Q) → Q
any_of_each p P [] each e then = absurd (cc)
any_of_each p P (x ∷ xs) each e then = or_else (p x) (list_any p xs) e (λ here. then x here each.0) (λ later. any_of_each p P xs each.1 later then)

pub each_equal : {X Y : Type 0} (g h : X → Y) (xs : List X) → map g xs ≡ map h xs → Each (λ x. g x ≡ h x) xs
each_equal g h [] e = tt
each_equal g h (x ∷ xs) e =
    let first : g x ≡ h x = cc in
    let later : map g xs ≡ map h xs = cc in
    (first, each_equal g h xs later)
