-- The least line that a walk marks, at the elements that pass two filters.
use Rattle.std.proofs.Common.{◌≡◌, ℕ, ◌+◌, ◌<◌, ◌≤◌, List, ◌∷◌, length, get_or, map, drop, Bool, true, false, sym, ap, ◌∙◌}
use Rattle.std.specs.Prelude.{Option, Some, filter, cond}
use Rattle.std.proofs.lemmas.List.{at_drop_all}
use Rattle.oil_model.specs.Lines.{sooner, least}
use Rattle.oil_model.proofs.{Leasts.{sooner_assoc, sooner_none}, Repeats.{filter_yes, filter_not}}

module _ {X : Type 0} (p q : X → Bool) (line : X → ℕ) (xs : List X) (i : ℕ) (best : Option ℕ) {total : Option ℕ} (e : sooner best (least (map line (filter q (filter p (drop i xs))))) ≡ total) where
  -- the next element passes the first filter, and passes the second or doesn't
  at_passing : (x : X) → i < length xs → x ≡ get_or xs i x → p x ≡ true → (b : Bool) → q x ≡ b → sooner best (least (map line (cond b (x ∷ filter q (filter p (drop (i + 1) xs))) (filter q (filter p (drop (i + 1) xs)))))) ≡ total
  at_passing x h is t b s =
      let rest : List X = filter p (drop (i + 1) xs) in
      sym (ap (λ (ys : List X). sooner best (least (map line (filter q ys)))) (filter_yes p xs i x h is t) ∙ (λ j. sooner best (least (map line (cond (s j) (x ∷ filter q rest) (filter q rest)))))) ∙ e

  pub marks : (x : X) → i < length xs → x ≡ get_or xs i x → p x ≡ true → q x ≡ true → {after : Option ℕ} → after ≡ sooner best (Some (line x)) → sooner after (least (map line (filter q (filter p (drop (i + 1) xs))))) ≡ total
  marks x h is t s marked =
      let later : Option ℕ = least (map line (filter q (filter p (drop (i + 1) xs)))) in
      ap (λ (b : Option ℕ). sooner b later) marked ∙ sym (sooner_assoc best (Some (line x)) later) ∙ at_passing x h is t true s

  pub leaves : (x : X) → i < length xs → x ≡ get_or xs i x → p x ≡ true → q x ≡ false → {after : Option ℕ} → after ≡ best → sooner after (least (map line (filter q (filter p (drop (i + 1) xs))))) ≡ total
  leaves x h is t s same = ap (λ (b : Option ℕ). sooner b (least (map line (filter q (filter p (drop (i + 1) xs)))))) same ∙ at_passing x h is t false s

  -- it doesn't pass the first
  pub passes_over : (x : X) → i < length xs → x ≡ get_or xs i x → p x ≡ false → {after : Option ℕ} → after ≡ best → sooner after (least (map line (filter q (filter p (drop (i + 1) xs))))) ≡ total
  passes_over x h is t same = (λ j. sooner (same j) (least (map line (filter q (sym (filter_not p xs i x h is t) j))))) ∙ e

  -- none is left
  pub all_marked : length xs ≤ i → best ≡ total
  all_marked h = sym (sooner_none best) ∙ sym (at_drop_all (λ (ys : List X). sooner best (least (map line (filter q (filter p ys))))) xs i h) ∙ e
