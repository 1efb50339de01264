-- An entry that has the values of two: what is below it has no others.
use Rattle.std.proofs.{Common.{◌≡◌, ◌⊎◌, ℕ, zero, suc, Bool, true, false, ◌||◌, List, [], ◌∷◌, ◌++◌, get_or, IsTrue, refl, sym, ◌∙◌}, lemmas.Bool.{or_cases, or_left, or_right}}
use Rattle.std.proofs.lemmas.List.Folds.{list_any-append}
use Rattle.abstract_state.specs.{declared.{value.PartValue.{PartValue}, table.{ValueSet.{ValueSet}, PlainEntry.{PlainEntry}}}, ValueOrder.{same_part}}
use Rattle.abstract_state.specs.{Tables.{empty_set, set_at, is_member}, Domains.{IsBelow}}

-- the members of two sets, one after the other
abbrev both : ValueSet → ValueSet → ValueSet
both a b = record { domain = a.domain; members = a.members ++ b.members }

abbrev sets_of_both : List ValueSet → List ValueSet → List ValueSet
sets_of_both [] ys = ys
sets_of_both (x ∷ xs) [] = x ∷ xs
sets_of_both (x ∷ xs) (y ∷ ys) = both x y ∷ sets_of_both xs ys

or_none : (b : Bool) → b ≡ (b || false)
or_none true = refl
or_none false = refl

has_both : (xs ys : List ValueSet) (c : ℕ) (v : PartValue) → is_member (get_or (sets_of_both xs ys) c empty_set) v ≡ (is_member (get_or xs c empty_set) v || is_member (get_or ys c empty_set) v)
has_both [] ys c v = refl
has_both (x ∷ xs) [] c v = or_none (is_member (get_or (x ∷ xs) c empty_set) v)
has_both (x ∷ xs) (y ∷ ys) zero v = list_any-append (same_part v) x.members y.members
has_both (x ∷ xs) (y ∷ ys) (suc c) v = has_both xs ys c v

-- what is below every entry above two has the values of these alone
pub of_two : (a b x : PlainEntry) → ((z : PlainEntry) → IsBelow a z → IsBelow b z → IsBelow x z) → (c : ℕ) (v : PartValue) → IsTrue (is_member (set_at x c) v) → IsTrue (is_member (set_at a c) v) ⊎ IsTrue (is_member (set_at b c) v)
of_two a b x least c v h =
    let z : PlainEntry = record { sets = sets_of_both a.sets b.sets } in
    let left : IsBelow a z = record { each = λ k w m. has_both a.sets b.sets k w ∙ or_left (is_member (set_at a k) w) (is_member (set_at b k) w) m } in
    let right : IsBelow b z = record { each = λ k w m. has_both a.sets b.sets k w ∙ or_right (is_member (set_at a k) w) (is_member (set_at b k) w) m } in
    or_cases (is_member (set_at a c) v) (is_member (set_at b c) v) (sym (has_both a.sets b.sets c v) ∙ (least z left right).each c v h)
