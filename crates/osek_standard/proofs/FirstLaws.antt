-- The first of some numbers, by a test that orders all numbers.
use Rattle.std.proofs.Common.{◌≡◌, ℕ, Bool, true, List, [], ◌∷◌, refl, sym, subst, ◌⊎◌, inl, inr, Some, None}
use Rattle.std.specs.List.{list_all}
use Rattle.osek_standard.specs.Priority.{first_of_all}
use Rattle.osek_standard.proofs.Members.{Among, all_of, of_all, find_one, find_among}

-- of two numbers one goes before the other, and both do so where they are the same alone; what goes before one that
-- goes before a third goes before the third
pub record Orders (before : ℕ → ℕ → Bool) : Type 0 where
  pub either : (x y : ℕ) → (before x y ≡ true) ⊎ (before y x ≡ true)
  pub once : (x y : ℕ) → before x y ≡ true → before y x ≡ true → x ≡ y
  pub onward : (x y z : ℕ) → before x y ≡ true → before y z ≡ true → before x z ≡ true

-- t is one of them and goes before each
pub record IsFirst (before : ℕ → ℕ → Bool) (xs : List ℕ) (t : ℕ) : Type 0 where
  pub among : Among t xs
  pub before_each : (u : ℕ) → Among u xs → before t u ≡ true

module _ (before : ℕ → ℕ → Bool) where
  pub first_is : (xs : List ℕ) (t : ℕ) → first_of_all before xs ≡ Some t → IsFirst before xs t
  unfolding first_of_all
  first_is xs t e = let found = find_among (λ x. list_all (before x) xs) t xs e in
      record { among = found.0; before_each = of_all (before t) xs found.1 }

  pub is_first : Orders before → (xs : List ℕ) (t : ℕ) → IsFirst before xs t → first_of_all before xs ≡ Some t
  unfolding first_of_all
  is_first o xs t h = find_one (λ x. list_all (before x) xs) t xs h.among (all_of (before t) xs h.before_each)
      (λ u m all. o.once u t (of_all (before u) xs all t h.among) (h.before_each u m))

  before_itself : Orders before → (x : ℕ) → before x x ≡ true
  before_itself o x = elim (o.either x x) [ inl f ↦ f | inr f ↦ f ]

  first_with : Orders before → (x : ℕ) (xs : List ℕ) (t : ℕ) → IsFirst before xs t → (before x t ≡ true) ⊎ (before t x ≡ true) → (r : ℕ) × IsFirst before (x ∷ xs) r
  first_with o x xs t h (inl above) = (
    x,
    record {
      among = inl refl;
      before_each = λ u m. elim m [
        | inl e ↦ subst (λ (v : ℕ). before x v ≡ true) (sym e) (before_itself o x)
        | inr n ↦ o.onward x t u above (h.before_each u n)
      ];
    },
  )
  first_with o x xs t h (inr above) = (
    t,
    record {
      among = inr h.among;
      before_each = λ u m. elim m [
        | inl e ↦ subst (λ (v : ℕ). before t v ≡ true) (sym e) above
        | inr n ↦ h.before_each u n
      ];
    },
  )

  -- of some numbers one is the first
  pub some_first : Orders before → (x : ℕ) (xs : List ℕ) → (t : ℕ) × IsFirst before (x ∷ xs) t
  some_first o x [] = (
    x,
    record {
      among = inl refl;
      before_each = λ u m. elim m [
        | inl e ↦ subst (λ (v : ℕ). before x v ≡ true) (sym e) (before_itself o x)
        | inr n ↦ absurd n
      ];
    },
  )
  some_first o x (y ∷ ys) = let r = some_first o y ys in first_with o x (y ∷ ys) r.0 r.1 (o.either x r.0)

  -- none is the first where there is none, and only there
  pub none_first : (xs : List ℕ) → ((u : ℕ) → Among u xs → ⊥) → first_of_all before xs ≡ None
  unfolding first_of_all
  none_first [] none = refl
  none_first (x ∷ xs) none = absurd (none x (inl refl))

  pub first_none : Orders before → (xs : List ℕ) → first_of_all before xs ≡ None → (u : ℕ) → Among u xs → ⊥
  first_none o [] e u m = m
  first_none o (x ∷ xs) e u m = let r = some_first o x xs in
      let f : first_of_all before (x ∷ xs) ≡ Some r.0 = is_first o (x ∷ xs) r.0 r.1 in cc
