-- The least line, step by step.
use Rattle.std.proofs.Common.{◌≡◌, ℕ, ◌+◌, ◌<◌, min, List, [], ◌∷◌, ◌++◌, length, get_or, drop, refl, sym, ap, ◌∙◌, arith}
use Rattle.std.specs.{Prelude.{Option, Some, None}, List.{flat_map}}
use Rattle.std.proofs.lemmas.List.{drop_more}
use Rattle.oil_model.specs.Lines.{sooner, least}

pub sooner_assoc : (a b c : Option ℕ) → sooner a (sooner b c) ≡ sooner (sooner a b) c
sooner_assoc None b c = refl
sooner_assoc (Some a) None c = refl
sooner_assoc (Some a) (Some b) None = refl
sooner_assoc (Some a) (Some b) (Some c) = let e : min a (min b c) ≡ min (min a b) c = omega arith in ap (λ (n : ℕ). Some n) e

pub sooner_none : (a : Option ℕ) → sooner a None ≡ a
sooner_none None = refl
sooner_none (Some a) = refl

pub least_append : (xs ys : List ℕ) → least (xs ++ ys) ≡ sooner (least xs) (least ys)
least_append [] ys = refl
least_append (x ∷ xs) ys = ap (sooner (Some x)) (least_append xs ys) ∙ sooner_assoc (Some x) (least xs) (least ys)

pub ruleset least_steps = (least_append, sooner_none, sooner_assoc)

-- a walk finds one element's lines more
pub flat_map_step : {X : Type 0} (f : X → List ℕ) (best total : Option ℕ) (xs : List X) (i : ℕ) (x : X) → i < length xs → x ≡ get_or xs i x → sooner best (least (flat_map f (drop i xs))) ≡ total → sooner (sooner best (least (f x))) (least (flat_map f (drop (i + 1) xs))) ≡ total
flat_map_step {X} f best total xs i x h is e =
    let rest : List ℕ = flat_map f (drop (i + 1) xs) in
    let split : drop i xs ≡ x ∷ drop (i + 1) xs = drop_more xs i x h ∙ ap (λ (t : X). t ∷ drop (i + 1) xs) (sym is) in
    let whole : least (flat_map f (drop i xs)) ≡ sooner (least (f x)) (least rest) = ap (λ (t : List X). least (flat_map f t)) split ∙ least_append (f x) rest in
    sym (sooner_assoc best (least (f x)) (least rest)) ∙ ap (sooner best) (sym whole) ∙ e

pub least_eight : (a b c d e f g h : List ℕ) → least (a ++ (b ++ (c ++ (d ++ (e ++ (f ++ (g ++ (h ++ [])))))))) ≡ sooner (least a) (sooner (least b) (sooner (least c) (sooner (least d) (sooner (least e) (sooner (least f) (sooner (least g) (least h)))))))
least_eight a b c d e f g h =
    least_append a _ ∙ ap (sooner (least a)) (least_append b _ ∙ ap (sooner (least b)) (least_append c _ ∙ ap (sooner (least c)) (least_append d _ ∙ ap (sooner (least d)) (least_append e _ ∙ ap (sooner (least e)) (least_append f _ ∙ ap (sooner (least f)) (least_append g _ ∙ ap (sooner (least g)) (least_append h [] ∙ sooner_none (least h))))))))
