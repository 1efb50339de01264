-- Lists that loops make, one element longer.
use Rattle.std.proofs.Common.{◌≡◌, ℕ, ◌+◌, Bool, true, false, List, [], ◌∷◌, ◌++◌, map, filter, refl, sym, ap, ◌∙◌, append_assoc}
use Rattle.std.specs.List.{range_with_len}
use Rattle.std.proofs.lemmas.Simd.{map-map}
use Rattle.abstract_state.proofs.RangeLaws.{passed_more, failed_more}

module _ {X : Type 0} (xs all : List X) where
  -- after what was there before
  pub pushed : (ys : List X) (x : X) → all ≡ xs ++ ys → all ++ x ∷ [] ≡ xs ++ (ys ++ x ∷ [])
  pushed ys x e = ap (λ (zs : List X). zs ++ x ∷ []) e ∙ append_assoc xs ys (x ∷ [])

  module _ (p : ℕ → Bool) (f : ℕ → X) (n : ℕ) (e : all ≡ xs ++ map f (filter p (range_with_len 0 n))) where
    pub passed_after : p n ≡ true → all ++ f n ∷ [] ≡ xs ++ map f (filter p (range_with_len 0 (n + 1)))
    passed_after passes = pushed (map f (filter p (range_with_len 0 n))) (f n) e ∙ ap (λ (ys : List X). xs ++ ys) (passed_more p f (map f (filter p (range_with_len 0 n))) n refl passes)

    pub failed_after : p n ≡ false → all ≡ xs ++ map f (filter p (range_with_len 0 (n + 1)))
    failed_after fails = e ∙ ap (λ (ys : List X). xs ++ ys) (failed_more p f (map f (filter p (range_with_len 0 n))) n refl fails)

-- two, and then those that a list gives
pub two_and_mapped : {X Y Z : Type 0} (f : X → Y) (g : Z → X) (old one two all : List Y) (a b : X) (zs : List Z) → one ≡ old ++ f a ∷ [] → two ≡ one ++ f b ∷ [] → all ≡ two ++ map (λ (z : Z). f (g z)) zs → all ≡ old ++ map f (a ∷ b ∷ map g zs)
two_and_mapped {X} {Y} {Z} f g old one two all a b zs first second rest =
    rest
    ∙ ap (λ (ys : List Y). ys ++ map (λ (z : Z). f (g z)) zs) (second ∙ ap (λ (ys : List Y). ys ++ f b ∷ []) first)
    ∙ append_assoc (old ++ f a ∷ []) (f b ∷ []) (map (λ (z : Z). f (g z)) zs)
    ∙ append_assoc old (f a ∷ []) (f b ∷ map (λ (z : Z). f (g z)) zs)
    ∙ ap (λ (ys : List Y). old ++ f a ∷ f b ∷ ys) (sym (map-map f g zs))

-- three, one after another
pub three_cases : {X Y : Type 0} (f : X → Y) (old one two all : List Y) (a b d : X) → one ≡ old ++ f a ∷ [] → two ≡ one ++ f b ∷ [] → all ≡ two ++ f d ∷ [] → all ≡ old ++ map f (a ∷ b ∷ d ∷ [])
three_cases {X} {Y} f old one two all a b d first second third =
    third
    ∙ ap (λ (ys : List Y). ys ++ f d ∷ []) (second ∙ ap (λ (ys : List Y). ys ++ f b ∷ []) first)
    ∙ append_assoc (old ++ f a ∷ []) (f b ∷ []) (f d ∷ [])
    ∙ append_assoc old (f a ∷ []) (f b ∷ f d ∷ [])
