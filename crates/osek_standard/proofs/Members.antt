-- What a list has: in a joined list, at a place, of what elements give, after a filter, in a range of numbers, by a test
-- of all, and by a search.
use Rattle.std.proofs.Common.{◌≡◌, ℕ, zero, suc, ◌+◌, ◌*◌, ◌<◌, ◌≤◌, Bool, true, false, cond, List, [], ◌∷◌, ◌++◌, length, map, flat_map, get_or, length-append, refl, sym, ◌∙◌, ap, subst, ◌⊎◌, inl, inr, arith, Some, nat_eq, Contains}
use Rattle.std.specs.List.{AllByRecursion, find, filter, list_all, range_with_len}
use Rattle.std.proofs.{Math.Nat.{add-mul}, lemmas.Bool.{cases_Bool, and_parts, Decides.{nat_tests}}}

abbrev pub Among : {X : Type 0} → X → List X → Type 0
Among t [] = ⊥
Among t (x ∷ xs) = (t ≡ x) ⊎ Among t xs

module _ {X : Type 0} where
  pub among_left : (x : X) (xs ys : List X) → Among x xs → Among x (xs ++ ys)
  among_left x [] ys m = absurd m
  among_left x (y ∷ xs) ys (inl e) = inl e
  among_left x (y ∷ xs) ys (inr m) = inr (among_left x xs ys m)

  pub among_right : (x : X) (xs ys : List X) → Among x ys → Among x (xs ++ ys)
  among_right x [] ys m = m
  among_right x (y ∷ xs) ys m = inr (among_right x xs ys m)

  pub among_cases : (x : X) (xs ys : List X) → Among x (xs ++ ys) → Among x xs ⊎ Among x ys
  among_cases x [] ys m = inr m
  among_cases x (y ∷ xs) ys (inl e) = inl (inl e)
  among_cases x (y ∷ xs) ys (inr m) = elim (among_cases x xs ys m) [ inl h ↦ inl (inr h) | inr h ↦ inr h ]

  -- `Contains`, by the list
  at_place : (xs : List X) (k : ℕ) (d x : X) → k < length xs → get_or xs k d ≡ x → Among x xs
  at_place [] k d x lt e = absurd (omega (arith, lt))
  at_place (y ∷ xs) zero d x lt e = inl (sym e)
  at_place (y ∷ xs) (suc k) d x lt e = inr (at_place xs k d x (omega (arith, lt)) e)

  pub contained_among : (xs : List X) (x : X) → Contains xs x → Among x xs
  contained_among xs x h = at_place xs h.0 x x h.1 h.2

  pub among_contained : (xs : List X) (x : X) → Among x xs → Contains xs x
  among_contained [] x m = absurd m
  among_contained (y ∷ xs) x (inl e) = (0, omega arith, sym e)
  among_contained (y ∷ xs) x (inr m) = let h = among_contained xs x m in (suc h.0, omega (arith, h.1), h.2)

  pub each_among : (P : X → Type 0) (xs : List X) → ((x : X) → Among x xs → P x) → AllByRecursion P xs
  each_among P [] h = tt
  each_among P (x ∷ xs) h = (h x (inl refl), each_among P xs (λ y m. h y (inr m)))

  pub among_each : (P : X → Type 0) (xs : List X) → AllByRecursion P xs → (x : X) → Among x xs → P x
  among_each P [] all x m = absurd m
  among_each P (y ∷ xs) all x (inl e) = subst P (sym e) all.0
  among_each P (y ∷ xs) all x (inr m) = among_each P xs all.1 x m

module _ {X Y : Type 0} where
  pub among_map : (f : X → Y) (x : X) (xs : List X) → Among x xs → Among (f x) (map f xs)
  among_map f x [] m = absurd m
  among_map f x (y ∷ xs) (inl e) = inl (ap f e)
  among_map f x (y ∷ xs) (inr m) = inr (among_map f x xs m)

  pub map_among : (f : X → Y) (y : Y) (xs : List X) → Among y (map f xs) → (x : X) × Among x xs × (y ≡ f x)
  map_among f y [] m = absurd m
  map_among f y (x ∷ xs) (inl e) = (x, inl refl, e)
  map_among f y (x ∷ xs) (inr m) = let h = map_among f y xs m in (h.0, inr h.1, h.2)

  pub among_flat_map : (f : X → List Y) (x : X) (y : Y) (xs : List X) → Among x xs → Among y (f x) → Among y (flat_map f xs)
  among_flat_map f x y [] m h = absurd m
  among_flat_map f x y (z ∷ xs) (inl e) h = among_left y (f z) (flat_map f xs) (subst (λ (w : X). Among y (f w)) e h)
  among_flat_map f x y (z ∷ xs) (inr m) h = among_right y (f z) (flat_map f xs) (among_flat_map f x y xs m h)

  pub flat_map_among : (f : X → List Y) (y : Y) (xs : List X) → Among y (flat_map f xs) → (x : X) × Among x xs × Among y (f x)
  flat_map_among f y [] m = absurd m
  flat_map_among f y (x ∷ xs) m = elim (among_cases y (f x) (flat_map f xs) m) [
    | inl h ↦ (x, inl refl, h)
    | inr h ↦ (let back = flat_map_among f y xs h in (back.0, inr back.1, back.2))
  ]

  -- as many for each element
  pub length_flat_map : (f : X → List Y) (m : ℕ) (xs : List X) → ((x : X) → Among x xs → length (f x) ≡ m) → length (flat_map f xs) ≡ length xs * m
  length_flat_map f m [] each = omega arith
  length_flat_map f m (x ∷ xs) each =
      let here = each x (inl refl) in
      let rest = length_flat_map f m xs (λ y among. each y (inr among)) in
      let more : (length xs + 1) * m ≡ length xs * m + 1 * m = add-mul (length xs) 1 m in
      let size : length (x ∷ xs) ≡ length xs + 1 = omega arith in
      length-append (f x) (flat_map f xs) ∙ omega (arith, here, rest, more) ∙ ap (λ (n : ℕ). n * m) (sym size)

among-filter : {X : Type 0} (q : X → Bool) (t : X) (xs : List X) → Among t xs → q t ≡ true → Among t (filter q xs)
among-filter q t [] m e = m
among-filter {X} q t (x ∷ xs) (inl h) e =
    let f : q x ≡ true = ap q (sym h) ∙ e in
    subst (λ (b : Bool). Among t (cond b (x ∷ filter q xs) (filter q xs))) (sym f) (inl h)
among-filter {X} q t (x ∷ xs) (inr h) e =
    elim (q x) as (λ b. Among t (cond b (x ∷ filter q xs) (filter q xs))) [
      | true ↦ inr (among-filter q t xs h e)
      | false ↦ among-filter q t xs h e
    ]

pub filter_among : {X : Type 0} (q : X → Bool) (t : X) (xs : List X) → Among t (filter q xs) → (q t ≡ true) × Among t xs
filter_among q t [] m = absurd m
filter_among {X} q t (x ∷ xs) m = elim (cases_Bool (q x)) [
  | inl f ↦
      (let m2 : Among t (x ∷ filter q xs) = subst (λ (b : Bool). Among t (cond b (x ∷ filter q xs) (filter q xs))) f m in
      elim m2 [ inl h ↦ (ap q h ∙ f, inl h) | inr h ↦ ((filter_among q t xs h).0, inr (filter_among q t xs h).1) ])
  | inr f ↦
      (let m2 : Among t (filter q xs) = subst (λ (b : Bool). Among t (cond b (x ∷ filter q xs) (filter q xs))) f m in
      ((filter_among q t xs m2).0, inr (filter_among q t xs m2).1))
]

-- a number in a row of numbers
pub among_range : (a n t : ℕ) → a ≤ t → t < a + n → Among t (range_with_len a n)
among_range a zero t low high = absurd (omega arith)
among_range a (suc n) t low high = elim (cases_Bool (nat_eq t a)) [
  | inl e ↦ inl (grind (arith, nat_tests))
  | inr e ↦ inr (among_range (a + 1) n t (grind (arith, nat_tests)) (omega arith))
]

pub range_among : (a n t : ℕ) → Among t (range_with_len a n) → (a ≤ t) × (t < a + n)
range_among a zero t m = absurd m
range_among a (suc n) t (inl h) = (omega arith, omega arith)
range_among a (suc n) t (inr h) = let m = range_among (a + 1) n t h in (omega (arith, m.0), omega (arith, m.1))

-- the numbers below n that pass a test are those of the filtered range
pub among_passing : (q : ℕ → Bool) (n t : ℕ) → t < n → q t ≡ true → Among t (filter q (range_with_len 0 n))
among_passing q n t below passes = among-filter q t (range_with_len 0 n) (among_range 0 n t (omega arith) (omega arith)) passes

pub passing_among : (q : ℕ → Bool) (n t : ℕ) → Among t (filter q (range_with_len 0 n)) → (q t ≡ true) × (t < n)
passing_among q n t m = let p = filter_among q t (range_with_len 0 n) m in (p.0, omega (arith, (range_among 0 n t p.1).1))

-- a test of each and a test of all
pub all_of : {X : Type 0} (p : X → Bool) (xs : List X) → ((u : X) → Among u xs → p u ≡ true) → list_all p xs ≡ true
all_of p [] h = refl
all_of p (x ∷ xs) h = rw (h x (inl refl)) (all_of p xs (λ u m. h u (inr m)))

pub of_all : {X : Type 0} (p : X → Bool) (xs : List X) → list_all p xs ≡ true → (u : X) → Among u xs → p u ≡ true
of_all p [] e u m = absurd m
of_all p (x ∷ xs) e u (inl h) = ap p h ∙ (and_parts (p x) (list_all p xs) e).0
of_all p (x ∷ xs) e u (inr h) = of_all p xs (and_parts (p x) (list_all p xs) e).1 u h

-- the only one that passes is found
pub find_one : {X : Type 0} (p : X → Bool) (t : X) (xs : List X) → Among t xs → p t ≡ true → ((u : X) → Among u xs → p u ≡ true → u ≡ t) → find p xs ≡ Some t
find_one p t [] m e one = absurd m
find_one {X} p t (x ∷ xs) m e one = elim (cases_Bool (p x)) [
  | inl f ↦ (rw f (ap (λ (u : X). Some u) (one x (inl refl) f)))
  | inr f ↦ (rw f (find_one p t xs
      (elim m [ inl h ↦ absurd (cc (e, f, ap p h)) | inr h ↦ h ]) e (λ u m2 g. one u (inr m2) g)))
]

-- what is found is among them and passes
pub find_among : {X : Type 0} (p : X → Bool) (t : X) (xs : List X) → find p xs ≡ Some t → Among t xs × (p t ≡ true)
find_among p t [] e = absurd (cc)
find_among {X} p t (x ∷ xs) e = elim (cases_Bool (p x)) [
  | inl f ↦ (let e2 : Some x ≡ Some t = subst (λ (b : Bool). cond b (Some x) (find p xs) ≡ Some t) f e in
      let same : x ≡ t = cc in (inl (sym same), ap p (sym same) ∙ f))
  | inr f ↦ (let m = find_among p t xs (subst (λ (b : Bool). cond b (Some x) (find p xs) ≡ Some t) f e) in (inr m.0, m.1))
]
