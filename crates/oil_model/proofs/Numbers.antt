-- Objects by their numbers.
use Rattle.std.proofs.Common.{◌≡◌, ℕ, suc, ◌+◌, ◌<◌, ⊎_elim, List, [], ◌∷◌, length, map, Bool, true, false, refl, sym, ap, ◌∙◌, subst, arith, add-one}
use Rattle.std.specs.{Prelude.{Some, if◌then◌else◌, cond, codes, find, ◌||◌, ◌==◌, slice_index_or}, List.{list_any}, Str.{bytes_eq}}
use Rattle.std.proofs.lemmas.Bool.Decides.{nat_tests}
use Rattle.oil_tree.specs.declared.tree.Object.{Object}
use Rattle.oil_model.specs.{Objects.{is_called, name_of, mask_of, used_after, line_at}, Rules.{empty_masks_from}, Systems.{number_from, number_in, events_from, mask_named}}
use Rattle.oil_model.proofs.{Clean.{true_not_false, left_empty, right_empty, mark_empty}, Facts.{true_or_false}}

or_second : (a b : Bool) → a ≡ false → (a || b) ≡ true → b ≡ true
or_second true b f h = absurd (true_not_false f)
or_second false b f h = h

-- counting from one more gives one more
one_more : (k : ℕ) (n : List ℕ) (objects : List Object) → list_any (is_called n) objects ≡ true → number_from (k + 1) n (map name_of objects) ≡ number_from k n (map name_of objects) + 1
one_more k n [] h = absurd (true_not_false (sym h))
one_more k n (o ∷ objects) h =
    ⊎_elim
    (λ t. subst (λ (b : Bool). (if b then k + 1 else number_from (k + 1 + 1) n (map name_of objects)) ≡ (if b then k else number_from (k + 1) n (map name_of objects)) + 1) (sym t) refl)
    (λ f. subst (λ (b : Bool). (if b then k + 1 else number_from (k + 1 + 1) n (map name_of objects)) ≡ (if b then k else number_from (k + 1) n (map name_of objects)) + 1) (sym f) (one_more (k + 1) n objects (or_second (is_called n o) (list_any (is_called n) objects) f h)))
    (true_or_false (bytes_eq o.name n))

-- the object of a name, and its number
pub record IsAt {Y : Type 0} (f : Object → Y) (n : List ℕ) (objects : List Object) : Type 0 where
  pub object : Object
  pub found : find (is_called n) objects ≡ Some object
  pub below : number_in (map name_of objects) n < length objects
  pub entry : (d : Y) → slice_index_or (map f objects) (number_in (map name_of objects) n) d ≡ f object

pub at_number : {Y : Type 0} (f : Object → Y) (n : List ℕ) (objects : List Object) → list_any (is_called n) objects ≡ true → IsAt f n objects
at_number f n [] h = absurd (true_not_false (sym h))
at_number {Y} f n (o ∷ objects) h =
    ⊎_elim
    (λ t.
    let first : number_in (map name_of (o ∷ objects)) n ≡ 0 = ap (λ (b : Bool). if b then 0 else number_from (0 + 1) n (map name_of objects)) t in
    record {
      object = o;
      found = ap (λ (b : Bool). cond b (Some o) (find (is_called n) objects)) t;
      below = omega (arith, first);
      entry = λ d. ap (λ (k : ℕ). slice_index_or (map f (o ∷ objects)) k d) first;
    })
    (λ f'.
    let rest : list_any (is_called n) objects ≡ true = or_second (is_called n o) (list_any (is_called n) objects) f' h in
    let later : IsAt f n objects = at_number f n objects rest in
    let next : number_in (map name_of (o ∷ objects)) n ≡ suc (number_in (map name_of objects) n) = ap (λ (b : Bool). if b then 0 else number_from (0 + 1) n (map name_of objects)) f' ∙ one_more 0 n objects rest ∙ add-one (number_in (map name_of objects) n) in
    let lt = later.below in
    record {
      object = later.object;
      found = ap (λ (b : Bool). cond b (Some o) (find (is_called n) objects)) f' ∙ later.found;
      below = omega (arith, next, lt);
      entry = λ d. ap (λ (k : ℕ). slice_index_or (map f (o ∷ objects)) k d) next ∙ later.entry d;
    })
    (true_or_false (bytes_eq o.name n))

pub not_zero : (m : ℕ) → (m == 0) ≡ false → 0 < m
not_zero m e = grind (arith, nat_tests)

-- the mask of a declared event has a bit
pub mask_some : (n : List ℕ) (used : ℕ) (events : List Object) → empty_masks_from used events ≡ [] → list_any (is_called n) events ≡ true → 0 < mask_named n (events_from used events)
mask_some n used [] e h = absurd (true_not_false (sym h))
mask_some n used (o ∷ events) e h =
    let mark : List ℕ = if mask_of used o == 0 then line_at (codes "MASK") o ∷ [] else [] in
    let rest : List ℕ = empty_masks_from (used_after used o) events in
    ⊎_elim
    (λ t. subst (λ (b : Bool). 0 < (if b then mask_of used o else mask_named n (events_from (used_after used o) events))) (sym t) (not_zero (mask_of used o) (mark_empty (mask_of used o == 0) (line_at (codes "MASK") o) (left_empty mark rest e))))
    (λ f. subst (λ (b : Bool). 0 < (if b then mask_of used o else mask_named n (events_from (used_after used o) events))) (sym f) (mask_some n (used_after used o) events (right_empty mark rest e) (or_second (is_called n o) (list_any (is_called n) events) f h)))
    (true_or_false (bytes_eq o.name n))
