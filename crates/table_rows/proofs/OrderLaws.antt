-- Lists in the order of their keys: where an element stands or belongs, what halving finds, and what edits leave.
use Rattle.std.proofs.Common.{◌≡◌, ◌≢◌, ℕ, ◌<◌, ◌≤◌, true, false, List, [], length, get_or, ltb, set, sym, ap, subst, ◌∙◌, inl, inr, arith}
use Rattle.std.proofs.Common.{get_or-set_same, get_or-set_other}
use Rattle.std.specs.{Prelude.{Contains}, List.{insert, Sorted.{IsPartitionedBy, IsPartitionPoint}}}
use Rattle.std.proofs.lemmas.{Bool.{cases_eq, cases_lt, cases_order, lt-ltb, ltb-true, ltb-false}, List.{length-set, get_or_default}}
use Rattle.table_rows.specs.Order.{AscendBy, IsPlaceBy, IsGapBy}
use Rattle.table_rows.proofs.ListEdits.{pairs_insert}

module _ {X : Type 0} (key : X → ℕ) where
  pub ascend_none : AscendBy key []
  ascend_none = record { before = λ i j d lt below. absurd (omega (arith, below)) }

  module _ (xs : List X) (order : AscendBy key xs) where
    -- elements with one key are one
    pub same_by : (a b : X) → Contains xs a → Contains xs b → key a ≡ key b → a ≡ b
    same_by a b h k e =
        let at_b : get_or xs k.0 a ≡ b = get_or_default xs k.0 a b k.1 ∙ k.2 in
        elim (cases_order h.0 k.0) [
          | inl same ↦ (sym h.2 ∙ ap (λ (n : ℕ). get_or xs n a) same ∙ at_b)
          | inr (inl below) ↦ absurd (omega (arith, order.before h.0 k.0 a below k.1, ap key h.2, ap key at_b, e))
          | inr (inr above) ↦ absurd (omega (arith, order.before k.0 h.0 a above h.1, ap key h.2, ap key at_b, e))
        ]

    -- the elements below a key come first
    pub parted : (n : ℕ) → IsPartitionedBy (λ (x : X). ltb (key x) n) xs
    parted n i j d le lt below = elim (cases_eq i j) [
      | inl same ↦ (ap (λ (k : ℕ). ltb (key (get_or xs k d)) n) same ∙ below)
      | inr other ↦ lt-ltb (key (get_or xs i d)) n (omega (arith, order.before i j d (omega (arith, le, other)) lt, ltb-true (key (get_or xs j d)) n below))
    ]

    -- so a key that isn't there has its gap behind them
    pub gap_found : (n gap : ℕ) → gap ≤ length xs → IsPartitionPoint (λ (x : X). ltb (key x) n ≡ true) (λ (x : X). ltb (key x) n ≡ false) xs gap
        → (gap < length xs → (d : X) → key (get_or xs gap d) ≡ n → ⊥) → IsGapBy key xs n gap
    gap_found n gap known parts other = record {
      known = known;
      below = λ k d lt. ltb-true (key (get_or xs k d)) n (parts.0 k d (omega arith) lt);
      above = λ k d from lt.
          let here = ltb-false (key (get_or xs gap d)) n (parts.1 gap d (omega arith) (omega (arith, from, lt))) in
          let differ : key (get_or xs gap d) ≢ n = other (omega (arith, from, lt)) d in
          elim (cases_eq gap k) [
            | inl same ↦ subst (λ (m : ℕ). n < key (get_or xs m d)) same (omega (arith, here, differ))
            | inr further ↦ omega (arith, here, order.before gap k d (omega (arith, from, further)) lt, differ)
          ];
    }

    -- the elements up to a key come first
    -- the element at a key's place alone has it
    pub only_place : (n place : ℕ) → IsPlaceBy key xs n place → (k : ℕ) (x : X) → k < length xs → get_or xs k x ≡ x → key x ≡ n → k ≡ place
    only_place n place at k x within is same = elim (cases_order k place) [
      | inl here ↦ here
      | inr (inl low) ↦ absurd (omega (arith, order.before k place x low at.known, ap key is, same, at.is x))
      | inr (inr high) ↦ absurd (omega (arith, order.before place k x high within, ap key is, same, at.is x))
    ]

    -- an element of the same key in its place
    pub ascend_set : (place : ℕ) (v : X) → place < length xs → key (get_or xs place v) ≡ key v → AscendBy key (set xs place v)
    ascend_set place v known same = record {
      before = λ i j d lt below.
          let long = length-set xs place v in
          let there : j < length xs = omega (arith, below, long) in
          omega (arith, order.before i j d lt there, its_key i d, its_key j d);
    }
      where
        its_key : (k : ℕ) (d : X) → key (get_or (set xs place v) k d) ≡ key (get_or xs k d)
        its_key k d = elim (cases_eq k place) [
          | inl e ↦
              (ap (λ (n : ℕ). key (get_or (set xs place v) n d)) e
              ∙ ap key (get_or-set_same xs place v d known)
              ∙ sym same
              ∙ ap key (get_or_default xs place v d known)
              ∙ ap (λ (n : ℕ). key (get_or xs n d)) (sym e))
          | inr other ↦ ap key (get_or-set_other xs place k v d other)
        ]

    -- a new element in its gap
    pub ascend_insert : (gap : ℕ) (v : X) → IsGapBy key xs (key v) gap → AscendBy key (insert xs gap v)
    ascend_insert gap v at = record { before = pairs_insert xs gap v at.known (λ x y. key x < key y) order.before at.below at.above }

  module _ (xs : List X) where
    -- a key that has a gap is no element's
    pub none_there : (n gap : ℕ) → IsGapBy key xs n gap → (x : X) → Contains xs x → key x ≡ n → ⊥
    none_there n gap at x h is = elim (cases_lt h.0 gap) [
      | inl low ↦ omega (arith, at.below h.0 x low, ap key h.2, is)
      | inr high ↦ omega (arith, at.above h.0 x high h.1, ap key h.2, is)
    ]

-- Two keys that are the same for each element.
module _ {X : Type 0} (key other : X → ℕ) (xs : List X) (same : (k : ℕ) (d : X) → k < length xs → key (get_or xs k d) ≡ other (get_or xs k d)) where
  pub place_alike : (n place : ℕ) → IsPlaceBy key xs n place → IsPlaceBy other xs n place
  place_alike n place at = record { known = at.known; is = λ d. sym (same place d at.known) ∙ at.is d }

  pub gap_alike : (n gap : ℕ) → IsGapBy key xs n gap → IsGapBy other xs n gap
  gap_alike n gap at = record {
    known = at.known;
    below = λ k d lt. omega (arith, at.below k d lt, same k d (omega (arith, lt, at.known)));
    above = λ k d from lt. omega (arith, at.above k d from lt, same k d lt);
  }
