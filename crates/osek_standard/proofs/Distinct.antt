-- Lists without a second of any element: joined lists, lists of what each element gives, and of numbers those that pass.
use Rattle.std.proofs.Common.{◌≡◌, ℕ, zero, suc, ◌+◌, Bool, true, false, cond, List, [], ◌∷◌, ◌++◌, length, filter, sym, subst, ◌∙◌, inl, inr, arith, nat_eq, flat_map, refl}
use Rattle.std.specs.{List.{IsDistinct, range_with_len}, Set.{is_member}}
use Rattle.std.proofs.lemmas.{Bool.{ne_eqb, true≢false}, Cmp.{nat_eq_equiv}, Map.Made.{length-le_from_is_member}}
use Rattle.std.proofs.lemmas.Map.Views.{Contains-from_any, exact_unsigned_eq, list_any-from_Contains}
use Rattle.osek_standard.proofs.Members.{Among, among_cases, among_contained, among_each, among_left, among_right, contained_among, each_among, filter_among, flat_map_among, range_among}

module _ {X : Type 0} (same : X → X → Bool) where
  abbrev Differs : X → X → Type 0
  Differs x y = same x y ≡ false

  pub distinct_first : (x : X) (xs : List X) → ((y : X) → Among y xs → Differs x y) → IsDistinct same xs → IsDistinct same (x ∷ xs)
  unfolding IsDistinct
  distinct_first x xs h d = (each_among (Differs x) xs h, d)

  pub distinct_joined : (xs ys : List X) → IsDistinct same xs → IsDistinct same ys → ((x y : X) → Among x xs → Among y ys → Differs x y) → IsDistinct same (xs ++ ys)
  unfolding IsDistinct
  distinct_joined [] ys d e h = e
  distinct_joined (x ∷ xs) ys d e h = (
    each_among (Differs x) (xs ++ ys) (λ z m. elim (among_cases z xs ys m) [ inl l ↦ among_each (Differs x) xs d.0 z l | inr r ↦ h x z (inl refl) r ]),
    distinct_joined xs ys d.1 e (λ a b m n. h a b (inr m) n),
  )

  pub distinct_left : (xs ys : List X) → IsDistinct same (xs ++ ys) → IsDistinct same xs
  unfolding IsDistinct
  distinct_left [] ys d = tt
  distinct_left (x ∷ xs) ys d = (each_among (Differs x) xs (λ z m. among_each (Differs x) (xs ++ ys) d.0 z (among_left z xs ys m)), distinct_left xs ys d.1)

  pub distinct_right : (xs ys : List X) → IsDistinct same (xs ++ ys) → IsDistinct same ys
  unfolding IsDistinct
  distinct_right [] ys d = d
  distinct_right (x ∷ xs) ys d = distinct_right xs ys d.1

  pub distinct_across : (xs ys : List X) → IsDistinct same (xs ++ ys) → (x y : X) → Among x xs → Among y ys → Differs x y
  unfolding IsDistinct
  distinct_across [] ys d x y m n = absurd m
  distinct_across (z ∷ xs) ys d x y (inl e) n = subst (λ (w : X). Differs w y) (sym e) (among_each (Differs z) (xs ++ ys) d.0 y (among_right y xs ys n))
  distinct_across (z ∷ xs) ys d x y (inr m) n = distinct_across xs ys d.1 x y m n

  -- two elements that are the same are one
  pub distinct_once : (xs : List X) (x y : X) → IsDistinct same xs → Among x xs → Among y xs → same x y ≡ true → same y x ≡ true → x ≡ y
  unfolding IsDistinct
  distinct_once [] x y d m n e f = absurd m
  distinct_once (z ∷ xs) x y d (inl h) (inl k) e f = h ∙ sym k
  distinct_once (z ∷ xs) x y d (inl h) (inr n) e f = absurd (true≢false (sym e ∙ subst (λ (w : X). Differs w y) (sym h) (among_each (Differs z) xs d.0 y n)))
  distinct_once (z ∷ xs) x y d (inr m) (inl k) e f = absurd (true≢false (sym f ∙ subst (λ (w : X). Differs w x) (sym k) (among_each (Differs z) xs d.0 x m)))
  distinct_once (z ∷ xs) x y d (inr m) (inr n) e f = distinct_once xs x y d.1 m n e f

-- each element gives distinct ones, and two that differ give none that are the same
module _ {X Y : Type 0} (f : X → List Y) (tie : X → X → Bool) (same : Y → Y → Bool) (own : (x : X) → IsDistinct same (f x)) (apart : (x z : X) → tie x z ≡ false → (y w : Y) → Among y (f x) → Among w (f z) → same y w ≡ false) where
  pub distinct_flat_map : (xs : List X) → IsDistinct tie xs → IsDistinct same (flat_map f xs)
  unfolding IsDistinct
  distinct_flat_map [] d = tt
  distinct_flat_map (x ∷ xs) d = distinct_joined same (f x) (flat_map f xs) (own x) (distinct_flat_map xs d.1)
      (λ y w m n. let h = flat_map_among f w xs n in apart x h.0 (among_each (λ (z : X). tie x z ≡ false) xs d.0 h.0 h.1) y w m h.2)

-- numbers in a row
pub distinct_range : (a n : ℕ) → IsDistinct nat_eq (range_with_len a n)
unfolding IsDistinct
distinct_range a zero = tt
distinct_range a (suc n) = distinct_first nat_eq a (range_with_len (a + 1) n) (λ t m. ne_eqb a t (λ e. omega (arith, e, (range_among (a + 1) n t m).0))) (distinct_range (a + 1) n)

-- those that pass
pub distinct_passing : (q : ℕ → Bool) (xs : List ℕ) → IsDistinct nat_eq xs → IsDistinct nat_eq (filter q xs)
unfolding IsDistinct
distinct_passing q [] d = tt
distinct_passing q (x ∷ xs) d =
    let rest : IsDistinct nat_eq (filter q xs) = distinct_passing q xs d.1 in
    elim (q x) as (λ b. IsDistinct nat_eq (cond b (x ∷ filter q xs) (filter q xs))) [
      | true ↦ distinct_first nat_eq x (filter q xs) (λ t m. among_each (λ (y : ℕ). nat_eq x y ≡ false) xs d.0 t (filter_among q t xs m).1) rest
      | false ↦ rest
    ]

-- lists without a second of any number, each with the numbers of the other, are as long
member_among : (xs : List ℕ) (t : ℕ) → is_member nat_eq xs t ≡ true → Among t xs
member_among xs t h = contained_among xs t (Contains-from_any exact_unsigned_eq t xs h)

among_member : (xs : List ℕ) (t : ℕ) → Among t xs → is_member nat_eq xs t ≡ true
among_member xs t m = list_any-from_Contains nat_eq_equiv t xs (among_contained xs t m)

pub same_length : (xs ys : List ℕ) → IsDistinct nat_eq xs → IsDistinct nat_eq ys → ((t : ℕ) → Among t xs → Among t ys) → ((t : ℕ) → Among t ys → Among t xs) → length xs ≡ length ys
same_length xs ys d e f g =
    let most = length-le_from_is_member nat_eq_equiv xs ys d (λ t h. among_member ys t (f t (member_among xs t h))) in
    let least = length-le_from_is_member nat_eq_equiv ys xs e (λ t h. among_member xs t (g t (member_among ys t h))) in
    omega (arith, most, least)
