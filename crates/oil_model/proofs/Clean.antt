-- What it says that nothing is found.
use Rattle.std.proofs.Common.{◌≡◌, ℕ, zero, suc, ◌<◌, inl, List, [], ◌∷◌, ◌++◌, length, get_or, map, Bool, true, false, refl, sym, subst, arith}
use Rattle.std.specs.{Prelude.{if◌then◌else◌, filter, cond}, List.{flat_map, AllByRecursion}}
use Rattle.oil_model.specs.Lines.{IsOneOf}

pub true_not_false : true ≡ false → ⊥
true_not_false e = cc

-- no line at all
pub no_line : (xs : List ℕ) → ((l : ℕ) → IsOneOf l xs → ⊥) → xs ≡ []
no_line [] h = refl
no_line (x ∷ xs) h = absurd (h x (inl refl))

pub left_empty : {X : Type 0} (xs ys : List X) → xs ++ ys ≡ [] → xs ≡ []
left_empty [] ys e = refl
left_empty (x ∷ xs) ys e = absurd cc

pub right_empty : {X : Type 0} (xs ys : List X) → xs ++ ys ≡ [] → ys ≡ []
right_empty [] ys e = e
right_empty (x ∷ xs) ys e = absurd cc

pub map_empty : {X Y : Type 0} (f : X → Y) (xs : List X) → map f xs ≡ [] → xs ≡ []
map_empty f [] e = refl
map_empty f (x ∷ xs) e = absurd cc

pub mark_empty : {X : Type 0} (b : Bool) (x : X) → (if b then x ∷ [] else []) ≡ [] → b ≡ false
mark_empty true x e = absurd cc
mark_empty false x e = refl

not_kept : {X : Type 0} (b : Bool) (x : X) (xs : List X) → cond b (x ∷ xs) xs ≡ [] → (b ≡ false) × (xs ≡ [])
not_kept true x xs e = absurd cc
not_kept false x xs e = (refl, e)

-- no element passes
pub none_pass : {X : Type 0} (p : X → Bool) (xs : List X) → filter p xs ≡ [] → AllByRecursion (λ (x : X). p x ≡ false) xs
none_pass p [] e = tt
none_pass p (x ∷ xs) e = let k = not_kept (p x) x (filter p xs) e in (k.0, none_pass p xs k.1)

pub each_empty : {X Y : Type 0} (f : X → List Y) (xs : List X) → flat_map f xs ≡ [] → AllByRecursion (λ (x : X). f x ≡ []) xs
each_empty f [] e = tt
each_empty f (x ∷ xs) e = (left_empty (f x) (flat_map f xs) e, each_empty f xs (right_empty (f x) (flat_map f xs) e))

-- what holds of each element holds of each that passes, and may be weakened there
kept_one : {X : Type 0} (P : X → Type 0) (b : Bool) (x : X) (xs : List X) → (b ≡ true → P x) → AllByRecursion P xs → AllByRecursion P (cond b (x ∷ xs) xs)
kept_one P true x xs h k = (h refl, k)
kept_one P false x xs h k = k

pub all_filtered : {X : Type 0} (P Q : X → Type 0) (p : X → Bool) (xs : List X) → ((x : X) → p x ≡ true → Q x → P x) → AllByRecursion Q xs → AllByRecursion P (filter p xs)
all_filtered P Q p [] f h = tt
all_filtered P Q p (x ∷ xs) f h = kept_one P (p x) x (filter p xs) (λ t. f x t h.0) (all_filtered P Q p xs f h.1)

pub all_weaker : {X : Type 0} (P Q : X → Type 0) (xs : List X) → ((x : X) → Q x → P x) → AllByRecursion Q xs → AllByRecursion P xs
all_weaker P Q [] f h = tt
all_weaker P Q (x ∷ xs) f h = (f x h.0, all_weaker P Q xs f h.1)

pub all_both : {X : Type 0} (P Q : X → Type 0) (xs : List X) → AllByRecursion P xs → AllByRecursion Q xs → AllByRecursion (λ (x : X). P x × Q x) xs
all_both P Q [] h k = tt
all_both P Q (x ∷ xs) h k = ((h.0, k.0), all_both P Q xs h.1 k.1)

taken : {X : Type 0} (P : X → Type 0) (b : Bool) (x : X) (xs : List X) → AllByRecursion P (cond b (x ∷ xs) xs) → (b ≡ true → P x) × AllByRecursion P xs
taken P true x xs h = ((λ t. h.0), h.1)
taken P false x xs h = ((λ t. absurd (true_not_false (sym t))), h)

-- one element of a filtered list
pub at_passing : {X : Type 0} (P : X → Type 0) (p : X → Bool) (xs : List X) (i : ℕ) (x : X) → AllByRecursion P (filter p xs) → i < length xs → x ≡ get_or xs i x → p x ≡ true → P x
at_passing P p [] i x h lt is t = absurd (omega (arith, lt))
at_passing {X} P p (y ∷ xs) zero x h lt is t =
    let k = taken P (p y) y (filter p xs) h in
    subst P (sym is) (k.0 (subst (λ (z : X). p z ≡ true) is t))
at_passing P p (y ∷ xs) (suc i) x h lt is t =
    at_passing P p xs i x (taken P (p y) y (filter p xs) h).1 (omega (arith, lt)) is t
