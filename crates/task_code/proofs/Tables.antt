-- Looking a name up in a table of words, from a place on.
use Rattle.std.proofs.Common.{◌≡◌, ℕ, ◌+◌, ◌<◌, ◌≤◌, true, false, Bool, cond, List, ◌∷◌, length, map, get_or, drop, length-drop, arith, sym, ap, ◌∙◌}
use Rattle.std.proofs.lemmas.List.{at_drop_more, nil_from_length}
use Rattle.std.specs.{Borrow.{Bor}, Prelude.{Option, Some, None}, Str.{bytes_eq}}
use Rattle.task_code.specs.Words.{found_in, entry}

module _ {T : Type 0} (table : List (Bor (List ℕ) × T)) (name : List ℕ) where
  abbrev pub found_from : ℕ → Option T
  found_from i = found_in (map entry (drop i table)) name

  at_place : (i : ℕ) (e : Bor (List ℕ) × T) → i < length table → e ≡ get_or table i e → found_from i ≡ cond (bytes_eq name e.0.now) (Some e.1) (found_from (i + 1))
  at_place i e lt is = at_drop_more (λ xs. found_in (map entry xs) name) table i e lt ∙ ap (λ (x : Bor (List ℕ) × T). found_in (map entry (x ∷ drop (i + 1) table)) name) (sym is)

  pub found_here : (i : ℕ) (e : Bor (List ℕ) × T) → i < length table → e ≡ get_or table i e → bytes_eq name e.0.now ≡ true → found_from i ≡ Some e.1
  found_here i e lt is same = at_place i e lt is ∙ ap (λ (b : Bool). cond b (Some e.1) (found_from (i + 1))) same

  pub not_here : (i : ℕ) (e : Bor (List ℕ) × T) → i < length table → e ≡ get_or table i e → bytes_eq name e.0.now ≡ false → found_from i ≡ found_from (i + 1)
  not_here i e lt is other = at_place i e lt is ∙ ap (λ (b : Bool). cond b (Some e.1) (found_from (i + 1))) other

  pub not_found : (i : ℕ) → length table ≤ i → found_from i ≡ None
  not_found i le = ap (λ (xs : List (Bor (List ℕ) × T)). found_in (map entry xs) name) (nil_from_length (drop i table) (omega (arith, le, length-drop i table)))
