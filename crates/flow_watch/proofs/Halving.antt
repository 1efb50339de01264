-- What is found by halving in a list in its order: a point, or an edge.
use Rattle.std.proofs.Common.{◌≡◌, ℕ, ◌<◌, ◌≤◌, Bool, true, false, ◌||◌, ◌&&◌, eqb, ltb, List, length, get_or, sym, ap, subst, ◌∙◌, ◌⊎◌, inl, inr, arith}
use Rattle.std.specs.List.{list_any, Sorted.{IsPartitionedBy, IsPartitionPoint}}
use Rattle.std.proofs.lemmas.{Bool.{and_from, and_parts, cases_Bool, cases_order, cases_eq, eq-eqb, eqb-true, lt-ltb, ltb-true, or_cases, or_left, or_right, true≢false}, List.Folds.{Any-from_list_any, list_any_at}}
use Rattle.osek_standard.specs.{declared.point.Point.{Point}, Points.{point_number}}
use Rattle.abstract_state.specs.{declared.edge.FlowEdge.{FlowEdge}, Tables.{same_point}}
use Rattle.abstract_state.proofs.EqualityLaws.{point_right}
use Rattle.table_rows.{specs.Order.{AscendBy, IsPlaceBy, IsGapBy}, proofs.OrderLaws.{only_place, none_there}}
use Rattle.global_cfg.specs.Edges.{IsBefore, AreAscending}
use Rattle.flow_watch.specs.Watches.{leads_to}

module _ {X : Type 0} (is : X → Bool) (xs : List X) (place : ℕ) where
  -- where no element but the one at a place can pass, one passes exactly if that one does
  nowhere : ((k : ℕ) (x : X) → k < length xs → get_or xs k x ≡ x → is x ≡ true → k ≡ place) → (place < length xs → (d : X) → is (get_or xs place d) ≡ false) → list_any is xs ≡ false
  nowhere only fails = elim (cases_Bool (list_any is xs)) [
    | inr none ↦ none
    | inl some ↦
        (let at = Any-from_list_any is xs some in
        let here : at.0 ≡ place = only at.0 at.1 at.2 at.3 at.4 in
        let within : place < length xs = omega (arith, here, at.2) in
        let same : get_or xs place at.1 ≡ at.1 = ap (λ (n : ℕ). get_or xs n at.1) (sym here) ∙ at.3 in
        absurd (true≢false (sym at.4 ∙ ap is (sym same) ∙ fails within at.1)))
  ]

  module _ (only : (k : ℕ) (x : X) → k < length xs → get_or xs k x ≡ x → is x ≡ true → k ≡ place) where
    -- the element that stands at the place passes, or none does
    pub at_place : (x : X) → place < length xs → ((d : X) → x ≡ get_or xs place d) → list_any is xs ≡ is x
    at_place x within stands = elim (cases_Bool (is x)) [
      | inl passes ↦ list_any_at is xs place x within (ap is (sym (stands x)) ∙ passes) ∙ sym passes
      | inr fails ↦ nowhere only (λ _ d. ap is (sym (stands d)) ∙ fails) ∙ sym fails
    ]

    pub past_end : length xs ≤ place → list_any is xs ≡ false
    past_end past = nowhere only (λ within d. absurd (omega (arith, past, within)))

-- ---- points

module _ (points : List Point) (order : AscendBy point_number points) where
  -- the point that stands where its number does is it, or none is
  pub point_there : (p : Point) (place : ℕ) → IsPlaceBy point_number points (point_number p) place → (x : Point) → ((d : Point) → x ≡ get_or points place d) → list_any (same_point p) points ≡ same_point p x
  point_there p place at x stands =
      at_place (same_point p) points place (λ k y within is same. only_place point_number points order (point_number p) place at k y within is (ap point_number (sym (point_right p y same)))) x at.known stands

  pub no_point_there : (p : Point) (gap : ℕ) → IsGapBy point_number points (point_number p) gap → list_any (same_point p) points ≡ false
  no_point_there p gap at =
      past_end (same_point p) points (length points) (λ k x within is same. absurd (none_there point_number points (point_number p) gap at x (k, within, is) (ap point_number (sym (point_right p x same))))) (omega arith)

-- ---- edges

-- it begins at a lower point, or at one with this number and ends at a lower one
abbrev pub is_below : ℕ → ℕ → FlowEdge → Bool
is_below n m e = ltb (point_number e.from) n || (eqb (point_number e.from) n && ltb (point_number e.to) m)

IsBelow : ℕ → ℕ → FlowEdge → Type 0
IsBelow n m e = (point_number e.from < n) ⊎ ((point_number e.from ≡ n) × (point_number e.to < m))

below_is : (n m : ℕ) (e : FlowEdge) → is_below n m e ≡ true → IsBelow n m e
unfolding IsBelow
below_is n m e h = elim (or_cases (ltb (point_number e.from) n) (eqb (point_number e.from) n && ltb (point_number e.to) m) h) [
  | inl low ↦ inl (ltb-true (point_number e.from) n low)
  | inr both ↦ (let parts = and_parts (eqb (point_number e.from) n) (ltb (point_number e.to) m) both in inr (eqb-true (point_number e.from) n parts.0, ltb-true (point_number e.to) m parts.1))
]

is_below_if : (n m : ℕ) (e : FlowEdge) → IsBelow n m e → is_below n m e ≡ true
unfolding IsBelow
is_below_if n m e (inl low) = or_left (ltb (point_number e.from) n) (eqb (point_number e.from) n && ltb (point_number e.to) m) (lt-ltb (point_number e.from) n low)
is_below_if n m e (inr both) =
    or_right (ltb (point_number e.from) n) (eqb (point_number e.from) n && ltb (point_number e.to) m)
    (and_from (eqb (point_number e.from) n) (ltb (point_number e.to) m) (eq-eqb (point_number e.from) n both.0) (lt-ltb (point_number e.to) m both.1))

below_too : (n m : ℕ) (x y : FlowEdge) → IsBefore x y → IsBelow n m y → IsBelow n m x
unfolding IsBelow
below_too n m x y (inl h) (inl k) = inl (omega (arith, h, k))
below_too n m x y (inl h) (inr k) = inl (omega (arith, h, k.0))
below_too n m x y (inr h) (inl k) = inl (omega (arith, h.0, k))
below_too n m x y (inr h) (inr k) = inr (omega (arith, h.0, k.0), omega (arith, h.1, k.1))

not_below_itself : (n m : ℕ) (x : FlowEdge) → point_number x.from ≡ n → point_number x.to ≡ m → IsBelow n m x → ⊥
unfolding IsBelow
not_below_itself n m x from to (inl low) = omega (arith, from, low)
not_below_itself n m x from to (inr both) = omega (arith, to, both.1)

before_below : (n m : ℕ) (x y : FlowEdge) → IsBefore x y → point_number y.from ≡ n → point_number y.to ≡ m → IsBelow n m x
unfolding IsBelow
before_below n m x y (inl low) from to = inl (omega (arith, low, from))
before_below n m x y (inr both) from to = inr (omega (arith, both.0, from), omega (arith, both.1, to))

module _ (edges : List FlowEdge) (order : AreAscending edges) where
  pub edges_parted : (n m : ℕ) → IsPartitionedBy (is_below n m) edges
  edges_parted n m i j d le within below = elim (cases_eq i j) [
    | inl same ↦ ap (λ (k : ℕ). is_below n m (get_or edges k d)) same ∙ below
    | inr other ↦
        is_below_if n m (get_or edges i d)
        (below_too n m (get_or edges i d) (get_or edges j d) (order i j d (omega (arith, le, other)) within) (below_is n m (get_or edges j d) below))
  ]

  pub only_edge : (p q : Point) (place : ℕ) → IsPartitionPoint (λ x. is_below (point_number p) (point_number q) x ≡ true) (λ x. is_below (point_number p) (point_number q) x ≡ false) edges place
      → (k : ℕ) (x : FlowEdge) → k < length edges → get_or edges k x ≡ x → leads_to p q x ≡ true → k ≡ place
  only_edge p q place parts k x within at led =
      let both = and_parts (same_point p x.from) (same_point q x.to) led in
      let from : point_number x.from ≡ point_number p = ap point_number (sym (point_right p x.from both.0)) in
      let to : point_number x.to ≡ point_number q = ap point_number (sym (point_right q x.to both.1)) in
      elim (cases_order k place) [
        | inl here ↦ here
        | inr (inl low) ↦
            absurd (not_below_itself (point_number p) (point_number q) x from to
            (below_is (point_number p) (point_number q) x (ap (is_below (point_number p) (point_number q)) (sym at) ∙ parts.0 k x (omega arith) low)))
        | inr (inr high) ↦
            (let before : IsBefore (get_or edges place x) x = subst (IsBefore (get_or edges place x)) at (order place k x high within) in
            absurd (true≢false (sym (is_below_if (point_number p) (point_number q) (get_or edges place x) (before_below (point_number p) (point_number q) (get_or edges place x) x before from to))
            ∙ parts.1 place x (omega arith) (omega (arith, high, within)))))
      ]
