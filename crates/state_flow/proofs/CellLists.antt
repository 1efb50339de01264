-- Lists of cells: their order, and what a join leaves of them.
use Rattle.std.proofs.Common.{◌≡◌, ◌⊎◌, ℕ, ◌+◌, ◌<◌, List, length, get_or, set, Some, refl, sym, ap, subst, ◌∙◌, inl, inr, arith, get_or-set_same, get_or-set_other}
use Rattle.std.specs.{Prelude.{Contains}, List.{insert}}
use Rattle.std.proofs.lemmas.{Bool.{cases_eq}, List.{length-set, get_or_default}}
use Rattle.std.proofs.lemmas.List.{Elements.{Contains-get_or}, Edits.{length-insert}, Sums.{sum_by-set, sum_by-insert}}
use Rattle.osek_standard.specs.{declared.point.Point.{Point}, Points.{point_number}}
use Rattle.table_rows.specs.{declared.bare.BareExit.{BareExit}, Order.{IsPlaceBy, IsGapBy}}
use Rattle.table_rows.proofs.{ListEdits.{insert_has, insert_stays, insert_place, insert_cases}, OrderLaws.{place_alike, gap_alike, ascend_set, ascend_insert}}
use Rattle.state_flow.specs.declared.cells.Cell.{Cell}
use Rattle.state_flow.specs.Cells.{cell_number, reached_cell, AreCellsInOrder, WasEvaluatedWith, waits, MayJoin, HasAbove, IsRaised, IsJoined}

-- what a list has after an edit
module _ {X : Type 0} (xs : List X) (i : ℕ) (v : X) where
  pub set_has : i < length xs → Contains (set xs i v) v
  set_has lt = (i, subst (λ (n : ℕ). i < n) (sym (length-set xs i v)) lt, get_or-set_same xs i v v lt)

  pub set_cases : (y : X) → Contains (set xs i v) y → (y ≡ v) ⊎ Contains xs y
  set_cases y h =
      let known : h.0 < length xs = subst (λ (n : ℕ). h.0 < n) (length-set xs i v) h.1 in
      elim (cases_eq h.0 i) [
        | inl same ↦
            (let there : i < length xs = subst (λ (n : ℕ). n < length xs) same known in
            inl (sym h.2 ∙ ap (λ (n : ℕ). get_or (set xs i v) n y) same ∙ get_or-set_same xs i v y there))
        | inr other ↦ inr (h.0, known, sym (get_or-set_other xs i h.0 v y other) ∙ h.2)
      ]

  -- an element stays, or was at the place
  pub set_stays : (y : X) → Contains xs y → (get_or xs i y ≡ y) ⊎ Contains (set xs i v) y
  set_stays y h = elim (cases_eq h.0 i) [
    | inl same ↦ inl (subst (λ (n : ℕ). get_or xs n y ≡ y) same h.2)
    | inr other ↦ inr (h.0, subst (λ (n : ℕ). h.0 < n) (sym (length-set xs i v)) h.1, get_or-set_other xs i h.0 v y other ∙ h.2)
  ]

module _ {E : Type 0} where
  abbrev told_number : Cell E → ℕ
  told_number cell = cell.number

  module _ (cells : List (Cell E)) (order : AreCellsInOrder cells) where
    -- a place by the numbers that they tell is one by their points'
    pub place_told : (n place : ℕ) → IsPlaceBy told_number cells n place → IsPlaceBy cell_number cells n place
    place_told = place_alike told_number cell_number cells order.told

    pub gap_told : (n gap : ℕ) → IsGapBy told_number cells n gap → IsGapBy cell_number cells n gap
    gap_told = gap_alike told_number cell_number cells order.told

    -- a cell of the same number in its place
    pub order_set : (place : ℕ) (cell : Cell E) → place < length cells → cell_number (get_or cells place cell) ≡ cell_number cell → cell.number ≡ cell_number cell → AreCellsInOrder (set cells place cell)
    order_set place cell known same told = record {
      told = λ k d lt.
          elim (cases_eq k place) [
            | inl e ↦
                (let here : get_or (set cells place cell) k d ≡ cell = ap (λ (n : ℕ). get_or (set cells place cell) n d) e ∙ get_or-set_same cells place cell d known in
                subst (λ (x : Cell E). x.number ≡ cell_number x) (sym here) told)
            | inr other ↦
                subst (λ (x : Cell E). x.number ≡ cell_number x) (sym (get_or-set_other cells place k cell d other))
                (order.told k d (let long = length-set cells place cell in omega (arith, lt, long)))
          ];
      ascend = ascend_set cell_number cells order.ascend place cell known same;
    }

    -- a new cell in its gap
    pub order_insert : (gap : ℕ) (cell : Cell E) → cell.number ≡ cell_number cell → IsGapBy cell_number cells (cell_number cell) gap → AreCellsInOrder (insert cells gap cell)
    order_insert gap cell told at = record {
      told = λ k d lt.
          let long : length (insert cells gap cell) ≡ length cells + 1 = length-insert cells gap cell at.known in
          insert_place cells gap cell at.known (λ n x. n < length (insert cells gap cell) → x.number ≡ cell_number x) k d
          (λ low less. order.told k d (omega (arith, low, at.known)))
          (λ same less. told)
          (λ j from next less. order.told j d (omega (arith, next, less, long)))
          lt;
      ascend = ascend_insert cell_number cells order.ascend gap cell at;
    }

-- in the words of a lattice
module _ {E : Type 0} (IsElement : E → Type 0) (AreAlike IsLower : E → E → Type 0) (rank : E → ℕ) (itself : (x : E) → IsLower x x) where
  module _ (cells : List (Cell E)) (point : Point) (entry : E) (order : AreCellsInOrder cells) (may : MayJoin IsElement AreAlike cells point entry) where
    -- The entry was joined to the cell at the place.
    pub joined_there : (place : ℕ) (cell : Cell E) → IsPlaceBy cell_number cells (point_number point) place → IsRaised IsElement AreAlike IsLower rank (get_or cells place cell) entry cell → IsJoined IsElement AreAlike IsLower rank cells point entry (set cells place cell)
    joined_there place cell at raised =
        let old = get_or cells place cell in
        let among : Contains cells old = Contains-get_or cells place cell at.known in
        let here : old.point ≡ point = may.one old among (at.is cell) in
        let has : Contains (set cells place cell) cell = set_has cells place cell at.known in
        let long = length-set cells place cell in
        let waiting = sum_by-set waits cells place cell cell at.known in
        let total = sum_by-set (λ (x : Cell E). rank x.entry) cells place cell cell at.known in
        record {
          order = order_set cells order place cell at.known (ap point_number (sym raised.point)) (raised.number ∙ order.told place cell at.known ∙ ap point_number (sym raised.point));
          evaluated = λ x h z was. elim (set_cases cells place cell x h) [
            | inl e ↦
                (let before = raised.evaluated z (subst (λ (y : Cell E). WasEvaluatedWith y z) e was) in
                record { cell = old; among = among; at = sym raised.point ∙ ap (λ (y : Cell E). y.point) (sym e); evaluated = before })
            | inr stays ↦ record { cell = x; among = stays; at = refl; evaluated = was }
          ];
          known = λ x h exits is. elim (set_cases cells place cell x h) [
            | inl e ↦
                (let before = raised.known exits (subst (λ (y : Cell E). y.exits ≡ Some exits) e is) in
                record {
                  cell = old;
                  among = among;
                  at = sym raised.point ∙ ap (λ (y : Cell E). y.point) (sym e);
                  is = sym before.1 ∙ ap (λ (y : Cell E). y.entry) (sym e);
                  knows = before.0;
                })
            | inr stays ↦ record { cell = x; among = stays; at = refl; is = refl; knows = is }
          ];
          grows = λ x h. elim (set_stays cells place cell x h) [
            | inl e ↦
                (let is : old ≡ x = get_or_default cells place cell x at.known ∙ e in
                subst (λ (y : Cell E). HasAbove IsLower (set cells place cell) y.point y.entry) is
                (record { cell = cell; among = has; at = raised.point; above = raised.grows }))
            | inr stays ↦ record { cell = x; among = stays; at = refl; above = itself x.entry }
          ];
          joins = record { cell = cell; among = has; at = raised.point ∙ here; above = raised.joins };
          from = λ x h. elim (set_cases cells place cell x h) [
            | inl e ↦ inr (inr (record { old = old; among = among; at = here; raised = subst (IsRaised IsElement AreAlike IsLower rank old entry) (sym e) raised }))
            | inr stays ↦ inl stays
          ];
          counts = omega (arith, waiting, total, long, raised.counts);
          sizes = omega (arith, waiting, long, raised.stays);
        }

    -- A new cell was put in its gap.
    pub joined_new : (gap : ℕ) → IsGapBy cell_number cells (point_number point) gap → IsJoined IsElement AreAlike IsLower rank cells point entry (insert cells gap (reached_cell point entry))
    joined_new gap at =
        let cell : Cell E = reached_cell point entry in
        let has = insert_has cells gap cell at.known in
        let long = length-insert cells gap cell at.known in
        let more = sum_by-insert waits cells gap cell in
        let total = sum_by-insert (λ (x : Cell E). rank x.entry) cells gap cell in
        let one : waits cell ≡ 1 = refl in
        record {
          order = order_insert cells order gap cell refl at;
          evaluated = λ x h z was. elim (insert_cases cells gap cell at.known x h) [
            | inl stays ↦ record { cell = x; among = stays; at = refl; evaluated = was }
            | inr e ↦ absurd (not_yet z (subst (λ (y : Cell E). WasEvaluatedWith y z) e was))
          ];
          known = λ x h exits is. elim (insert_cases cells gap cell at.known x h) [
            | inl stays ↦ record { cell = x; among = stays; at = refl; is = refl; knows = is }
            | inr e ↦ absurd (none_yet exits (subst (λ (y : Cell E). y.exits ≡ Some exits) e is))
          ];
          grows = λ x h. record { cell = x; among = insert_stays cells gap cell at.known x h; at = refl; above = itself x.entry };
          joins = record { cell = cell; among = has; at = refl; above = itself entry };
          from = λ x h. elim (insert_cases cells gap cell at.known x h) [
            | inl stays ↦ inl stays
            | inr e ↦ inr (inl (record { at = ap (λ (y : Cell E). y.point) e; is = ap (λ (y : Cell E). y.entry) e }))
          ];
          counts = omega (arith, more, total, long, one);
          sizes = omega (arith, more, long, one);
        }
      where
        not_yet : (z : E) → WasEvaluatedWith (reached_cell point entry) z → ⊥
        not_yet z (inl kept) = absurd (cc)
        not_yet z (inr own) = absurd (let idle = own.0 in cc)

        none_yet : (exits : List BareExit) → (reached_cell point entry).exits ≡ Some exits → ⊥
        none_yet exits is = absurd (cc)
