-- What is repeated in a list, step by step.
use Rattle.std.proofs.Common.{◌≡◌, ℕ, ◌+◌, ◌<◌, List, [], ◌∷◌, ◌++◌, length, get_or, map, drop, Bool, true, false, ◌||◌, refl, sym, ap, ◌∙◌}
use Rattle.std.specs.{Prelude.{Option, Some, None, if◌then◌else◌, not, filter, cond}, List.{list_any}}
use Rattle.std.proofs.lemmas.List.{drop_more, Folds.{list_any-append}}
use Rattle.oil_model.specs.{Lines.{sooner, least}, Rules.{repeated}}
use Rattle.oil_model.proofs.Leasts.{sooner_assoc}

module _ {X : Type 0} (p : X → Bool) (xs : List X) (i : ℕ) (x : X) (h : i < length xs) (is : x ≡ get_or xs i x) where
  split : drop i xs ≡ x ∷ drop (i + 1) xs
  split = drop_more xs i x h ∙ ap (λ (t : X). t ∷ drop (i + 1) xs) (sym is)

  -- the next element passes a filter, or doesn't
  pub filter_yes : p x ≡ true → filter p (drop i xs) ≡ x ∷ filter p (drop (i + 1) xs)
  filter_yes t = ap (filter p) split ∙ ap (λ (b : Bool). cond b (x ∷ filter p (drop (i + 1) xs)) (filter p (drop (i + 1) xs))) t

  pub filter_not : p x ≡ false → filter p (drop i xs) ≡ filter p (drop (i + 1) xs)
  filter_not t = ap (filter p) split ∙ ap (λ (b : Bool). cond b (x ∷ filter p (drop (i + 1) xs)) (filter p (drop (i + 1) xs))) t

marked : (b : Bool) (l : ℕ) (ls : List ℕ) (best : Option ℕ) → sooner (sooner best (least (if b then l ∷ [] else []))) (least ls) ≡ sooner best (least ((if b then l ∷ [] else []) ++ ls))
marked true l ls best = sym (sooner_assoc best (Some l) (least ls))
marked false l ls None = refl
marked false l ls (Some x) = refl

map_marked : {X : Type 0} (line : X → ℕ) (b : Bool) (x : X) (rest : List X) → map line ((if b then x ∷ [] else []) ++ rest) ≡ (if b then line x ∷ [] else []) ++ map line rest
map_marked line true x rest = refl
map_marked line false x rest = refl

-- one more element is looked at, that is new or isn't
pub repeated_step : {X : Type 0} (line : X → ℕ) (same : X → X → Bool) (before rest : List X) (x : X) (new : Bool) (best total : Option ℕ) → not new ≡ list_any (same x) before → sooner best (least (map line (repeated same before (x ∷ rest)))) ≡ total → sooner (sooner best (least (if not new then line x ∷ [] else []))) (least (map line (repeated same (before ++ x ∷ []) rest))) ≡ total
repeated_step {X} line same before rest x new best total seen e =
    let later : List X = repeated same (before ++ x ∷ []) rest in
    marked (not new) (line x) (map line later) best
    ∙ ap (λ (b : Bool). sooner best (least ((if b then line x ∷ [] else []) ++ map line later))) seen
    ∙ ap (λ (ls : List ℕ). sooner best (least ls)) (sym (map_marked line (list_any (same x) before) x later))
    ∙ e

or_swap : (a b : Bool) → (a || b) ≡ (b || (a || false))
or_swap true true = refl
or_swap true false = refl
or_swap false true = refl
or_swap false false = refl

-- one element more is in front
pub any_push : {X : Type 0} (p : X → Bool) (before : List X) (x : X) → (p x || list_any p before) ≡ list_any p (before ++ x ∷ [])
any_push p before x = or_swap (p x) (list_any p before) ∙ sym (list_any-append p before (x ∷ []))

pub not_not : (a b : Bool) → a ≡ not b → not a ≡ b
not_not a true e = ap not e
not_not a false e = ap not e
