-- Lists over the numbers below another, one number longer.
use Rattle.std.proofs.Common.{◌≡◌, ℕ, zero, suc, ◌+◌, Bool, true, false, cond, List, [], ◌∷◌, ◌++◌, ◌≤◌, length, map, take, filter, flat_map, sym, ap, ◌∙◌, arith, append_assoc}
use Rattle.std.specs.List.{range_with_len}
use Rattle.std.proofs.lemmas.{List.{append-nil, map-append, take_all, Elements.{filter-append}, FromFn.{map-range_with_len_more}}, Grind.{flat_map-append}, Simd.{map-map}}

range_from : (a n : ℕ) → range_with_len a (suc n) ≡ range_with_len a n ++ (a + n) ∷ []
range_from a zero = ap (λ (k : ℕ). k ∷ []) (omega arith)
range_from a (suc n) = ap (λ (xs : List ℕ). a ∷ xs) (range_from (a + 1) n ∙ ap (λ (k : ℕ). range_with_len (a + 1) n ++ k ∷ []) (omega arith))

pub range_more : (n : ℕ) → range_with_len 0 (n + 1) ≡ range_with_len 0 n ++ n ∷ []
range_more n =
    let long : n + 1 ≡ suc n = omega arith in
    let last : 0 + n ≡ n = omega arith in
    ap (range_with_len 0) long ∙ range_from 0 n ∙ ap (λ (k : ℕ). range_with_len 0 n ++ k ∷ []) last

module _ {X : Type 0} (xs all : List X) where
  pub mapped_more : (f : ℕ → X) (n : ℕ) → all ≡ xs ++ map f (range_with_len 0 n) → all ++ f n ∷ [] ≡ xs ++ map f (range_with_len 0 (n + 1))
  mapped_more f n e =
      ap (λ (ys : List X). ys ++ f n ∷ []) e
      ∙ append_assoc xs (map f (range_with_len 0 n)) (f n ∷ [])
      ∙ ap (λ (ys : List X). xs ++ ys) (sym (map-range_with_len_more f 0 n n (omega arith)))

  pub flat_mapped_more : (f : ℕ → List X) (n : ℕ) → all ≡ xs ++ flat_map f (range_with_len 0 n) → all ++ f n ≡ xs ++ flat_map f (range_with_len 0 (n + 1))
  flat_mapped_more f n e =
      ap (λ (ys : List X). ys ++ f n) e
      ∙ append_assoc xs (flat_map f (range_with_len 0 n)) (f n)
      ∙ ap (λ (ys : List X). xs ++ ys)
      (ap (λ (ys : List X). flat_map f (range_with_len 0 n) ++ ys) (sym (append-nil (f n)))
      ∙ sym (flat_map-append f (range_with_len 0 n) (n ∷ []))
      ∙ ap (flat_map f) (sym (range_more n)))

module _ {X : Type 0} (p : ℕ → Bool) (f : ℕ → X) (all : List X) (n : ℕ) (e : all ≡ map f (filter p (range_with_len 0 n))) where
  filtered_more : filter p (range_with_len 0 (n + 1)) ≡ filter p (range_with_len 0 n) ++ cond (p n) (n ∷ []) []
  filtered_more = ap (filter p) (range_more n) ∙ filter-append p (range_with_len 0 n) (n ∷ [])

  pub passed_more : p n ≡ true → all ++ f n ∷ [] ≡ map f (filter p (range_with_len 0 (n + 1)))
  passed_more passes =
      ap (λ (ys : List X). ys ++ f n ∷ []) e
      ∙ sym (map-append f (filter p (range_with_len 0 n)) (n ∷ []))
      ∙ ap (λ (b : Bool). map f (filter p (range_with_len 0 n) ++ cond b (n ∷ []) [])) (sym passes)
      ∙ ap (map f) (sym filtered_more)

  pub failed_more : p n ≡ false → all ≡ map f (filter p (range_with_len 0 (n + 1)))
  failed_more fails =
      e
      ∙ ap (map f) (sym (append-nil (filter p (range_with_len 0 n))))
      ∙ ap (λ (b : Bool). map f (filter p (range_with_len 0 n) ++ cond b (n ∷ []) [])) (sym fails)
      ∙ ap (map f) (sym filtered_more)

-- each element of a list that is a map of another
pub mapped_all : {X Y Z : Type 0} (f : X → Y) (g : Y → Z) (bits : List X) (items : List Y) (i : ℕ) → items ≡ map f bits → length items ≤ i → map g (take i items) ≡ map (λ (x : X). g (f x)) bits
mapped_all f g bits items i e le = ap (map g) (take_all i items le ∙ e) ∙ map-map g f bits
