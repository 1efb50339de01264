-- What a walk collects from the elements that pass a filter, step by step.
use Rattle.std.proofs.Common.{◌≡◌, ℕ, ◌+◌, ◌<◌, ◌≤◌, List, [], ◌∷◌, ◌++◌, length, get_or, map, drop, Bool, true, false, append_assoc, sym, ap, ◌∙◌}
use Rattle.std.specs.Prelude.{filter}
use Rattle.std.proofs.lemmas.List.{append-nil, at_drop_all}
use Rattle.oil_model.proofs.Repeats.{filter_yes, filter_not}

module _ {X Y : Type 0} (p : X → Bool) (f : X → Y) (xs : List X) (i : ℕ) (found : List Y) {total : List Y} (e : found ++ map f (filter p (drop i xs)) ≡ total) where
  -- the next element passes, or doesn't
  pub collects : (x : X) → i < length xs → x ≡ get_or xs i x → p x ≡ true → {after : List Y} → after ≡ found ++ f x ∷ [] → after ++ map f (filter p (drop (i + 1) xs)) ≡ total
  collects x h is t pushed =
      let rest : List Y = map f (filter p (drop (i + 1) xs)) in
      ap (λ (ys : List Y). ys ++ rest) pushed ∙ append_assoc found (f x ∷ []) rest ∙ ap (λ (ys : List X). found ++ map f ys) (sym (filter_yes p xs i x h is t)) ∙ e

  pub passes_over : (x : X) → i < length xs → x ≡ get_or xs i x → p x ≡ false → {after : List Y} → after ≡ found → after ++ map f (filter p (drop (i + 1) xs)) ≡ total
  passes_over x h is t same = (λ j. same j ++ map f (sym (filter_not p xs i x h is t) j)) ∙ e

  -- none is left
  pub collected : length xs ≤ i → found ≡ total
  collected h = sym (append-nil found) ∙ sym (at_drop_all (λ (ys : List X). found ++ map f (filter p ys)) xs i h) ∙ e
