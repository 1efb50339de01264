-- What a list has after an element was put in, and which of its pairs are related.
use Rattle.std.proofs.Common.{◌≡◌, ◌⊎◌, ℕ, ◌+◌, ◌-◌, ◌<◌, ◌≤◌, List, length, get_or, refl, sym, ap, subst, ◌∙◌, inl, inr, arith}
use Rattle.std.specs.{Prelude.{Contains}, List.{AllPairs, insert}}
use Rattle.std.proofs.lemmas.Bool.{cases_lt, cases_order}
use Rattle.std.proofs.lemmas.List.Edits.{length-insert, get_or-insert_below, get_or-insert_at, get_or-insert_above}

module _ {X : Type 0} where
  -- what is inserted in a list
  module _ (xs : List X) (i : ℕ) (v : X) (le : i ≤ length xs) where
    pub insert_has : Contains (insert xs i v) v
    insert_has = (i, omega (arith, le, length-insert xs i v le), get_or-insert_at xs i v v le)

    pub insert_stays : (y : X) → Contains xs y → Contains (insert xs i v) y
    insert_stays y h = elim (cases_lt h.0 i) [
      | inl below ↦ (h.0, omega (arith, h.1, length-insert xs i v le), get_or-insert_below xs i v y h.0 below le ∙ h.2)
      | inr above ↦ (h.0 + 1, omega (arith, h.1, length-insert xs i v le), get_or-insert_above xs i v y h.0 above le ∙ h.2)
    ]

    -- the element at a place was at it, is the new one, or was at the place before
    pub insert_place : (P : ℕ → X → Type 0) (k : ℕ) (d : X) → (k < i → P k (get_or xs k d)) → (k ≡ i → P k v) → ((j : ℕ) → i ≤ j → k ≡ j + 1 → P k (get_or xs j d)) → P k (get_or (insert xs i v) k d)
    insert_place P k d low here high = elim (cases_order k i) [
      | inl same ↦ subst (P k) (sym (ap (λ (n : ℕ). get_or (insert xs i v) n d) same ∙ get_or-insert_at xs i v d le)) (here same)
      | inr (inl below) ↦ subst (P k) (sym (get_or-insert_below xs i v d k below le)) (low below)
      | inr (inr above) ↦
          (let next : k ≡ k - 1 + 1 = omega (arith, above) in
          let from : i ≤ k - 1 = omega (arith, above) in
          subst (P k) (sym (ap (λ (n : ℕ). get_or (insert xs i v) n d) next ∙ get_or-insert_above xs i v d (k - 1) from le)) (high (k - 1) from next))
    ]

    pub insert_cases : (y : X) → Contains (insert xs i v) y → Contains xs y ⊎ (y ≡ v)
    insert_cases y h =
        let long = length-insert xs i v le in
        insert_place (λ k x. x ≡ y → Contains xs y ⊎ (y ≡ v)) h.0 y
        (λ below e. inl (h.0, omega (arith, below, le), e))
        (λ same e. inr (sym e))
        (λ j from next e. inl (j, omega (arith, next, h.1, long), e))
        h.2

    -- related to those before its place and to those behind it
    pub pairs_insert : (R : X → X → Type 0) → AllPairs R xs → ((k : ℕ) (d : X) → k < i → R (get_or xs k d) v) → ((k : ℕ) (d : X) → i ≤ k → k < length xs → R v (get_or xs k d)) → AllPairs R (insert xs i v)
    pairs_insert R pairs before behind m n d lt below =
        let long : length (insert xs i v) ≡ length xs + 1 = length-insert xs i v le in
        insert_place (λ k x. k < n → R x (get_or (insert xs i v) n d)) m d
        (λ low less.
        insert_place (λ k y. k ≡ n → R (get_or xs m d) y) n d
        (λ under e. pairs m n d lt (omega (arith, under, le)))
        (λ same e. before m d low)
        (λ j from next e. pairs m j d (omega (arith, low, from)) (omega (arith, next, below, long)))
        refl)
        (λ same less.
        insert_place (λ k y. k ≡ n → R v y) n d
        (λ under e. absurd (omega (arith, under, same, lt)))
        (λ too e. absurd (omega (arith, too, same, lt)))
        (λ j from next e. behind j d from (omega (arith, next, below, long)))
        refl)
        (λ k from next less.
        insert_place (λ j y. j ≡ n → R (get_or xs k d) y) n d
        (λ under e. absurd (omega (arith, under, next, from, lt)))
        (λ too e. absurd (omega (arith, too, next, from, lt)))
        (λ j high after e. pairs k j d (omega (arith, next, after, lt)) (omega (arith, after, below, long)))
        refl)
        lt
