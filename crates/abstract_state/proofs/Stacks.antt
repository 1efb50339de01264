-- Lists without repeats, and all stacks of distinct resources.
use Rattle.std.proofs.Common.{◌≡◌, ℕ, zero, suc, ◌+◌, ◌*◌, Bool, true, false, cond, List, [], ◌∷◌, ◌++◌, length, map, filter, flat_map, refl, sym, ap, subst, ◌∙◌, inl, inr, arith}
use Rattle.std.specs.{Prelude.{if◌then◌else◌}, List.{range_with_len, IsDistinct}}
use Rattle.std.proofs.lemmas.{Bool.{cases_Bool, eqb-true, eq-eqb}, List.{length-map}}
use Rattle.osek_values.specs.{Numbers.{res_no}, declared.numbers.ResNo.{ResNo}}
use Rattle.osek_standard.specs.{Counts.{stacks}, Well.{same_resource}}
use Rattle.osek_standard.proofs.Members.{Among, among_cases, among_each, among_flat_map, among_map, each_among, filter_among, flat_map_among, length_flat_map, map_among, range_among}

-- no element stands twice
abbrev pub Apart : {X : Type 0} → List X → Type 0
Apart [] = Unit {0}
Apart (x ∷ xs) = (Among x xs → ⊥) × Apart xs

false_by : (b : Bool) → (b ≡ true → ⊥) → b ≡ false
false_by true h = absurd (h refl)
false_by false h = refl

module _ {X : Type 0} where
  -- lists without repeats and without a common element, joined
  pub apart_append : (xs ys : List X) → Apart xs → Apart ys → ((x : X) → Among x xs → Among x ys → ⊥) → Apart (xs ++ ys)
  apart_append [] ys h k none = k
  apart_append (x ∷ xs) ys h k none =
      (λ m. elim (among_cases x xs ys m) [ inl a ↦ h.0 a | inr b ↦ none x (inl refl) b ], apart_append xs ys h.1 k (λ y m. none y (inr m)))

  -- by a test for equality
  pub distinct_apart : (test : X → X → Bool) → ((x y : X) → test x y ≡ true → x ≡ y) → (xs : List X) → Apart xs → IsDistinct test xs
  unfolding IsDistinct
  distinct_apart test right [] h = tt
  distinct_apart test right (x ∷ xs) h =
      (each_among (λ y. test x y ≡ false) xs (λ y m. false_by (test x y) (λ e. h.0 (subst (λ (z : X). Among z xs) (sym (right x y e)) m))), distinct_apart test right xs h.1)

  pub apart_distinct : (test : X → X → Bool) → ((x : X) → test x x ≡ true) → (xs : List X) → IsDistinct test xs → Apart xs
  unfolding IsDistinct
  apart_distinct test itself [] d = tt
  apart_distinct test itself (x ∷ xs) d =
      (λ m. let differs : test x x ≡ false = among_each (λ y. test x y ≡ false) xs d.0 x m in let equal : test x x ≡ true = itself x in absurd (cc), apart_distinct test itself xs d.1)

module _ {X Y : Type 0} where
  -- a function that tells elements apart
  pub apart_map : (f : X → Y) → ((x y : X) → f x ≡ f y → x ≡ y) → (xs : List X) → Apart xs → Apart (map f xs)
  apart_map f one [] h = tt
  apart_map f one (x ∷ xs) h =
      (λ m. let back = map_among f (f x) xs m in h.0 (subst (λ (z : X). Among z xs) (sym (one x back.0 back.2)) back.1), apart_map f one xs h.1)

  -- lists without repeats, one for each element, none with an element of another's
  pub apart_flat_map : (f : X → List Y) → ((x y : X) (z : Y) → Among z (f x) → Among z (f y) → x ≡ y) → (xs : List X) → ((x : X) → Among x xs → Apart (f x)) → Apart xs → Apart (flat_map f xs)
  apart_flat_map f one [] each h = tt
  apart_flat_map f one (x ∷ xs) each h =
      apart_append (f x) (flat_map f xs) (each x (inl refl)) (apart_flat_map f one xs (λ y m. each y (inr m)) h.1)
      (λ z m n. let back = flat_map_among f z xs n in h.0 (subst (λ (w : X). Among w xs) (sym (one x back.0 z m back.2)) back.1))

module _ {X : Type 0} where
  filter_by : (q : X → Bool) (x : X) (xs : List X) (b : Bool) → q x ≡ b → (Among x xs → ⊥) → Apart (filter q xs) → Apart (cond b (x ∷ filter q xs) (filter q xs))
  filter_by q x xs true e absent h = (λ m. absent (filter_among q x xs m).1, h)
  filter_by q x xs false e absent h = h

  -- some of its elements
  pub apart_filter : (q : X → Bool) (xs : List X) → Apart xs → Apart (filter q xs)
  apart_filter q [] h = tt
  apart_filter q (x ∷ xs) h = filter_by q x xs (q x) refl h.0 (apart_filter q xs h.1)

module _ {X Y : Type 0} where
  -- all pairs out of two lists
  abbrev pub pairs : List X → List Y → List (X × Y)
  pairs xs ys = flat_map (λ x. map (λ y. (x, y)) ys) xs

  pub among_pairs : (x : X) (y : Y) (xs : List X) (ys : List Y) → Among x xs → Among y ys → Among (x, y) (pairs xs ys)
  among_pairs x y xs ys m k = among_flat_map (λ (u : X). map (λ (v : Y). (u, v)) ys) x (x, y) xs m (among_map (λ (v : Y). (x, v)) y ys k)

  pub pairs_among : (p : X × Y) (xs : List X) (ys : List Y) → Among p (pairs xs ys) → Among p.0 xs × Among p.1 ys
  pairs_among p xs ys m =
      let first = flat_map_among (λ (u : X). map (λ (v : Y). (u, v)) ys) p xs m in
      let second = map_among (λ (v : Y). (first.0, v)) p ys first.2 in (
        subst (λ (u : X). Among u xs) (sym (ap (λ (q : X × Y). q.0) second.2)) first.1,
        subst (λ (v : Y). Among v ys) (sym (ap (λ (q : X × Y). q.1) second.2)) second.1,
      )

  pub apart_pairs : (xs : List X) (ys : List Y) → Apart xs → Apart ys → Apart (pairs xs ys)
  apart_pairs xs ys h k =
      apart_flat_map (λ (u : X). map (λ (v : Y). (u, v)) ys)
      (λ x z p m n. let a = map_among (λ (v : Y). (x, v)) p ys m in let b = map_among (λ (v : Y). (z, v)) p ys n in ap (λ (q : X × Y). q.0) (sym a.2 ∙ b.2))
      xs (λ x m. apart_map (λ (v : Y). (x, v)) (λ y w e. ap (λ (q : X × Y). q.1) e) ys k) h

  pub length_pairs : (xs : List X) (ys : List Y) → length (pairs xs ys) ≡ length xs * length ys
  length_pairs xs ys = length_flat_map (λ (u : X). map (λ (v : Y). (u, v)) ys) (length ys) xs (λ x m. length-map ys (λ (v : Y). (x, v)))

pub apart_range : (a n : ℕ) → Apart (range_with_len a n)
apart_range a zero = tt
apart_range a (suc n) = (λ m. let h = range_among (a + 1) n a m in absurd (omega (arith, h.0)), apart_range (a + 1) n)

-- a list but for one resource
abbrev pub without : ResNo → List ResNo → List ResNo
without r [] = []
without r (x ∷ xs) = if same_resource r x then without r xs else x ∷ without r xs

pub resource_itself : (r : ResNo) → same_resource r r ≡ true
resource_itself r = eq-eqb r.0 r.0 refl

resource_right : (q r : ResNo) → same_resource q r ≡ true → q ≡ r
resource_right q r e = ap res_no (eqb-true q.0 r.0 e)

resource_other : (q r : ResNo) → same_resource q r ≡ false → q ≡ r → ⊥
resource_other q r e same = let equal : same_resource q r ≡ true = subst (λ (x : ResNo). same_resource q x ≡ true) same (resource_itself q) in absurd (cc)

module _ (r : ResNo) where
  without_same : (x : ResNo) (xs : List ResNo) → same_resource r x ≡ true → without r (x ∷ xs) ≡ without r xs
  without_same x xs e = ap (λ (b : Bool). if b then without r xs else x ∷ without r xs) e

  without_other : (x : ResNo) (xs : List ResNo) → same_resource r x ≡ false → without r (x ∷ xs) ≡ x ∷ without r xs
  without_other x xs e = ap (λ (b : Bool). if b then without r xs else x ∷ without r xs) e

  -- it has the others
  pub among_without : (q : ResNo) (xs : List ResNo) → Among q xs → (r ≡ q → ⊥) → Among q (without r xs)
  among_without q [] m differs = m
  among_without q (x ∷ xs) m differs = elim (cases_Bool (same_resource r x)) [
    | inl equal ↦ subst (Among q) (sym (without_same x xs equal)) (elim m [
      | inl e ↦ absurd (differs (resource_right r x equal ∙ sym e))
      | inr h ↦ among_without q xs h differs
    ])
    | inr other ↦ subst (Among q) (sym (without_other x xs other)) (elim m [
      | inl e ↦ inl e
      | inr h ↦ inr (among_without q xs h differs)
    ])
  ]

  without_among : (q : ResNo) (xs : List ResNo) → Among q (without r xs) → Among q xs × (r ≡ q → ⊥)
  without_among q [] m = absurd m
  without_among q (x ∷ xs) m = elim (cases_Bool (same_resource r x)) [
    | inl equal ↦ (let h = without_among q xs (subst (Among q) (without_same x xs equal) m) in (inr h.0, h.1))
    | inr other ↦
        (let n : Among q (x ∷ without r xs) = subst (Among q) (without_other x xs other) m in
        elim n [
          | inl e ↦ (inl e, λ same. resource_other r x other (same ∙ e))
          | inr h ↦ (let k = without_among q xs h in (inr k.0, k.1))
        ])
  ]

  pub apart_without : (xs : List ResNo) → Apart xs → Apart (without r xs)
  apart_without [] h = tt
  apart_without (x ∷ xs) h = elim (cases_Bool (same_resource r x)) [
    | inl equal ↦ subst Apart (sym (without_same x xs equal)) (apart_without xs h.1)
    | inr other ↦ subst Apart (sym (without_other x xs other)) (λ m. h.0 (without_among x xs m).0, apart_without xs h.1)
  ]

  length_absent : (xs : List ResNo) → (Among r xs → ⊥) → length (without r xs) ≡ length xs
  length_absent [] absent = refl
  length_absent (x ∷ xs) absent = elim (cases_Bool (same_resource r x)) [
    | inl equal ↦ absurd (absent (inl (resource_right r x equal)))
    | inr other ↦ ap length (without_other x xs other) ∙ omega (arith, length_absent xs (λ m. absent (inr m)))
  ]

  -- it is one shorter
  pub length_without : (xs : List ResNo) → Apart xs → Among r xs → length (without r xs) + 1 ≡ length xs
  length_without [] h m = absurd m
  length_without (x ∷ xs) h m = elim (cases_Bool (same_resource r x)) [
    | inl equal ↦
        (let gone : Among r xs → ⊥ = λ n. h.0 (subst (λ (q : ResNo). Among q xs) (resource_right r x equal) n) in
        omega (arith, ap length (without_same x xs equal), length_absent xs gone))
    | inr other ↦
        (let later : Among r xs = elim m [ inl e ↦ absurd (resource_other r x other e) | inr n ↦ n ] in
        omega (arith, ap length (without_other x xs other), length_without xs h.1 later))
  ]

-- the stacks of the resources left: the empty one, and each resource on top of each stack of the others
abbrev all_stacks : ℕ → List ResNo → List (List ResNo)
all_stacks zero left = [] ∷ []
all_stacks (suc n) left = [] ∷ flat_map (λ r. map (λ held. r ∷ held) (all_stacks n (without r left))) left

-- those with this resource on top
abbrev stacks_on : ℕ → List ResNo → ResNo → List (List ResNo)
stacks_on n left r = map (λ held. r ∷ held) (all_stacks n (without r left))

-- a stack of distinct resources of a list
record IsStackOf (left held : List ResNo) : Type 0 where
  apart : Apart held
  known : (q : ResNo) → Among q held → Among q left

none_held : (left held : List ResNo) → held ≡ [] → IsStackOf left held
none_held left held e = subst (IsStackOf left) (sym e) (record { apart = tt; known = λ q m. absurd m })

stack_on : (left : List ResNo) (r : ResNo) (held : List ResNo) → Among r left → IsStackOf (without r left) held → IsStackOf left (r ∷ held)
stack_on left r held m stack = record {
  apart = (λ n. (without_among r r left (stack.known r n)).1 refl, stack.apart);
  known = λ q n. elim n [
    | inl e ↦ subst (λ (x : ResNo). Among x left) (sym e) m
    | inr h ↦ (without_among r q left (stack.known q h)).0
  ];
}

stack_under : (left : List ResNo) (r : ResNo) (held : List ResNo) → IsStackOf left (r ∷ held) → IsStackOf (without r left) held
stack_under left r held stack = record {
  apart = stack.apart.1;
  known = λ q n. among_without r q left (stack.known q (inr n)) (λ e. stack.apart.0 (subst (λ (x : ResNo). Among x held) (sym e) n));
}

-- each of them is a stack
stack_there : (n : ℕ) (left held : List ResNo) → Among held (all_stacks n left) → IsStackOf left held
stack_there zero left held (inl e) = none_held left held e
stack_there zero left held (inr m) = absurd m
stack_there (suc n) left held (inl e) = none_held left held e
stack_there (suc n) left held (inr m) =
    let on = flat_map_among (stacks_on n left) held left m in
    let under = map_among (λ (more : List ResNo). on.0 ∷ more) held (all_stacks n (without on.0 left)) on.2 in
    subst (IsStackOf left) (sym under.2) (stack_on left on.0 under.0 on.1 (stack_there n (without on.0 left) under.0 under.1))

-- one of them taken away, n are left
fewer_left : (n : ℕ) (left : List ResNo) (r : ResNo) → length left ≡ suc n → Apart left → Among r left → length (without r left) ≡ n
fewer_left n left r size apart m = omega (arith, size, length_without r left apart m)

none_left : (left : List ResNo) → length left ≡ 0 → left ≡ []
none_left [] e = refl
none_left (x ∷ left) e = absurd (omega (arith, e))

-- and each stack is among them
there_stack : (n : ℕ) (left held : List ResNo) → length left ≡ n → Apart left → IsStackOf left held → Among held (all_stacks n left)
there_stack zero left [] size apart stack = inl refl
there_stack zero left (r ∷ held) size apart stack = absurd (subst (Among r) (none_left left size) (stack.known r (inl refl)))
there_stack (suc n) left [] size apart stack = inl refl
there_stack (suc n) left (r ∷ held) size apart stack =
    let m = stack.known r (inl refl) in
    inr (among_flat_map (stacks_on n left) r (r ∷ held) left m
    (among_map (λ (more : List ResNo). r ∷ more) held (all_stacks n (without r left))
    (there_stack n (without r left) held (fewer_left n left r size apart m) (apart_without r left apart) (stack_under left r held stack))))

-- two tops differ
one_top : (n : ℕ) (left : List ResNo) (q r : ResNo) (held : List ResNo) → Among held (stacks_on n left q) → Among held (stacks_on n left r) → q ≡ r
one_top n left q r held m k =
    let over_q = map_among (λ (more : List ResNo). q ∷ more) held (all_stacks n (without q left)) m in
    let over_r = map_among (λ (more : List ResNo). r ∷ more) held (all_stacks n (without r left)) k in
    let same : q ∷ over_q.0 ≡ r ∷ over_r.0 = sym over_q.2 ∙ over_r.2 in
    cc

one_rest : (r : ResNo) (held kept : List ResNo) → r ∷ held ≡ r ∷ kept → held ≡ kept
one_rest r held kept e = cc

-- none stands twice
apart_stacks : (n : ℕ) (left : List ResNo) → length left ≡ n → Apart left → Apart (all_stacks n left)
apart_stacks zero left size apart = (λ m. m, tt)
apart_stacks (suc n) left size apart = (
  λ m.
      let on = flat_map_among (stacks_on n left) [] left m in
      let under = map_among (λ (more : List ResNo). on.0 ∷ more) [] (all_stacks n (without on.0 left)) on.2 in
      let e = under.2 in
      absurd (cc),
  apart_flat_map (stacks_on n left) (one_top n left) left
      (λ r m. apart_map (λ (more : List ResNo). r ∷ more) (one_rest r) (all_stacks n (without r left))
      (apart_stacks n (without r left) (fewer_left n left r size apart m) (apart_without r left apart)))
      apart,
)

-- and these are so many
length_stacks : (n : ℕ) (left : List ResNo) → length left ≡ n → Apart left → length (all_stacks n left) ≡ stacks n
length_stacks zero left size apart = refl
length_stacks (suc n) left size apart =
    let each = length_flat_map (stacks_on n left) (stacks n) left (λ r m.
    length-map (all_stacks n (without r left)) (λ (more : List ResNo). r ∷ more)
    ∙ length_stacks n (without r left) (fewer_left n left r size apart m) (apart_without r left apart)) in
    let all : length (flat_map (stacks_on n left) left) ≡ suc n * stacks n = each ∙ ap (λ (k : ℕ). k * stacks n) size in
    omega (arith, all)

-- All stacks out of a list of distinct resources.
abbrev pub stacks_out_of : List ResNo → List (List ResNo)
stacks_out_of left = all_stacks (length left) left

pub apart_stacks_out_of : (left : List ResNo) → Apart left → Apart (stacks_out_of left)
apart_stacks_out_of left apart = apart_stacks (length left) left refl apart

pub length_stacks_out_of : (left : List ResNo) → Apart left → length (stacks_out_of left) ≡ stacks (length left)
length_stacks_out_of left apart = length_stacks (length left) left refl apart

pub stack_distinct : (left held : List ResNo) → Among held (stacks_out_of left) → IsDistinct same_resource held
stack_distinct left held m = distinct_apart same_resource resource_right held (stack_there (length left) left held m).apart

pub stack_known : (left held : List ResNo) → Among held (stacks_out_of left) → (r : ResNo) → Among r held → Among r left
stack_known left held m = (stack_there (length left) left held m).known

pub out_of_stack : (left held : List ResNo) → Apart left → IsDistinct same_resource held → ((r : ResNo) → Among r held → Among r left) → Among held (stacks_out_of left)
out_of_stack left held apart distinct known = there_stack (length left) left held refl apart (record {
  apart = apart_distinct same_resource resource_itself held distinct;
  known = known;
})
