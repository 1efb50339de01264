-- Objects with no two the same, where nothing is repeated.
use Rattle.std.proofs.Common.{◌≡◌, List, [], ◌∷◌, ◌++◌, map, Bool, true, false, ◌&&◌, ◌||◌, refl, sym, ap, ◌∙◌, subst, append_assoc}
use Rattle.std.specs.{Prelude.{if◌then◌else◌, filter, cond}, Cmp.{IsEquivalence}, List.{AllByRecursion, IsDistinct, list_any}}
use Rattle.std.proofs.lemmas.List.{append-nil}
use Rattle.std.proofs.lemmas.Map.Keys.{IsDistinct-push, IsDistinct-cons, IsDistinct-head, IsDistinct-tail}
use Rattle.oil_model.specs.Rules.{repeated}
use Rattle.oil_model.proofs.Clean.{left_empty, right_empty, mark_empty}

module _ {X K : Type 0} (key : X → K) (eq : K → K → Bool) where
  -- an earlier element has the key
  abbrev pub same_key : X → X → Bool
  same_key x earlier = eq (key earlier) (key x)

  map_push : (xs : List X) (x : X) → map key (xs ++ x ∷ []) ≡ map key xs ++ key x ∷ []
  map_push [] x = refl
  map_push (y ∷ xs) x = ap (λ (ks : List K). key y ∷ ks) (map_push xs x)

  any_map : (laws : IsEquivalence eq) (x : X) (xs : List X) → list_any (eq (key x)) (map key xs) ≡ list_any (same_key x) xs
  any_map laws x [] = refl
  any_map laws x (y ∷ xs) = λ i. laws.symm (key x) (key y) i || any_map laws x xs i

  -- what isn't repeated is distinct
  pub distinct_from : (laws : IsEquivalence eq) (before xs : List X) → repeated same_key before xs ≡ [] → IsDistinct eq (map key before) → IsDistinct eq (map key (before ++ xs))
  distinct_from laws before [] e d = subst (λ (ys : List X). IsDistinct eq (map key ys)) (sym (append-nil before)) d
  distinct_from laws before (x ∷ xs) e d =
      let later : List X = repeated same_key (before ++ x ∷ []) xs in
      let mark : List X = if list_any (same_key x) before then x ∷ [] else [] in
      let new : list_any (eq (key x)) (map key before) ≡ false = any_map laws x before ∙ mark_empty (list_any (same_key x) before) x (left_empty mark later e) in
      let more : IsDistinct eq (map key (before ++ x ∷ [])) = subst (λ (ks : List K). IsDistinct eq ks) (sym (map_push before x)) (IsDistinct-push laws (map key before) (key x) d new) in
      subst (λ (ys : List X). IsDistinct eq (map key ys)) (append_assoc before (x ∷ []) xs) (distinct_from laws (before ++ x ∷ []) xs (right_empty mark later e) more)

  -- those among them that pass are distinct too
  kept_map : (P : K → Type 0) (b c : Bool) (x : X) (xs ys : List X) → AllByRecursion P (map key (cond b (x ∷ xs) xs)) → (AllByRecursion P (map key xs) → AllByRecursion P (map key ys)) → AllByRecursion P (map key (cond (b && c) (x ∷ ys) ys))
  kept_map P true true x xs ys h f = (h.0, f h.1)
  kept_map P true false x xs ys h f = f h.1
  kept_map P false c x xs ys h f = f h

  pub all_kept : (P : K → Type 0) (p q : X → Bool) (xs : List X) → AllByRecursion P (map key (filter p xs)) → AllByRecursion P (map key (filter (λ (x : X). p x && q x) xs))
  all_kept P p q [] h = tt
  all_kept P p q (x ∷ xs) h = kept_map P (p x) (q x) x (filter p xs) (filter (λ (y : X). p y && q y) xs) h (all_kept P p q xs)

  kept_distinct : (b c : Bool) (x : X) (xs ys : List X) → IsDistinct eq (map key (cond b (x ∷ xs) xs)) → ((P : K → Type 0) → AllByRecursion P (map key xs) → AllByRecursion P (map key ys)) → (IsDistinct eq (map key xs) → IsDistinct eq (map key ys)) → IsDistinct eq (map key (cond (b && c) (x ∷ ys) ys))
  kept_distinct true true x xs ys d all f = IsDistinct-cons eq (key x) (map key ys) (all (λ (k : K). eq (key x) k ≡ false) (IsDistinct-head eq (key x) (map key xs) d)) (f (IsDistinct-tail eq (key x) (map key xs) d))
  kept_distinct true false x xs ys d all f = f (IsDistinct-tail eq (key x) (map key xs) d)
  kept_distinct false c x xs ys d all f = f d

  pub distinct_kept : (p q : X → Bool) (xs : List X) → IsDistinct eq (map key (filter p xs)) → IsDistinct eq (map key (filter (λ (x : X). p x && q x) xs))
  distinct_kept p q [] d = d
  distinct_kept p q (x ∷ xs) d = kept_distinct (p x) (q x) x (filter p xs) (filter (λ (y : X). p y && q y) xs) d (λ (P : K → Type 0). all_kept P p q xs) (distinct_kept p q xs)
