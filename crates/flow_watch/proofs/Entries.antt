-- The points of the rows of a written table are those at which it has an entry, in their order.
use Rattle.std.proofs.Common.{◌≡◌, ◌↔◌, ℕ, ◌+◌, ◌<◌, ◌≤◌, List, [], ◌∷◌, ◌++◌, length, map, take, take_all, get_or, IsTrue, sym, ap, subst, ◌∙◌, arith}
use Rattle.std.specs.Prelude.{Contains}
use Rattle.std.proofs.{Math.ListN.{get_or-map}, lemmas.List.{length-map, get_or-map as get_or-map_at, take_more}}
use Rattle.osek_standard.specs.{declared.{app.App.{App}, point.Point.{Point}}, Points.{point_number}}
use Rattle.osek_standard.proofs.Members.{among_contained, among_map, contained_among, map_among}
use Rattle.abstract_state.specs.{declared.table.{TableRow.{TableRow}, PlainTable.{PlainTable}}, Tables.{sets_of}, Written.{IsWritten}}
use Rattle.abstract_state.proofs.EqualityLaws.{written_entry}
use Rattle.numbered_sets.specs.{declared.table.NumberedRow.{NumberedRow}, Pools.{Values}, PlainTables.{plain_row, AreRowsFor}}
use Rattle.numbered_sets.proofs.{RowsByNumber.{as_many}, WrittenRows.{rows_ascend}}
use Rattle.table_rows.specs.Order.{AscendBy}

abbrev pub row_point : TableRow → Point
row_point row = row.point

module _ (app : App) (table : PlainTable) (written : IsWritten app table) where
  abbrev points : List Point
  points = map row_point table.rows

  pub in_order : AscendBy point_number (map row_point table.rows)
  in_order = record {
    before = λ i j d lt below.
        let none : TableRow = record { point = d; entry = record { sets = [] } } in
        let size = length-map table.rows row_point in
        let low = ap (λ (p : Point). point_number p) (get_or-map row_point table.rows i none) in
        let high = ap (λ (p : Point). point_number p) (get_or-map row_point table.rows j none) in
        omega (arith, low, high, rows_ascend app table written i j none lt (omega (arith, below, size)));
  }

  entered : (p : Point) → Contains points p → IsTrue ((sets_of table).entry p)
  entered p h =
      let at = map_among row_point p table.rows (contained_among points p h) in
      (written_entry table p).1 (record { row = at.0; among = among_contained table.rows at.0 at.1; point = sym at.2 })

  listed : (p : Point) → IsTrue ((sets_of table).entry p) → Contains points p
  listed p e =
      let h = (written_entry table p).0 e in
      subst (Contains points) h.point (among_contained points h.row.point (among_map row_point h.row table.rows (contained_among table.rows h.row h.among)))

  pub are_entries : (p : Point) → Contains (map row_point table.rows) p ↔ IsTrue ((sets_of table).entry p)
  are_entries p = (entered p, listed p)

-- the point of a row by number is that of the plain table's row
module _ (plain : List TableRow) (pool : List Values) (rows : List NumberedRow) (are : AreRowsFor plain pool rows) where
  pub point_at : (i : ℕ) (row : NumberedRow) (d : Point) → i < length rows → row ≡ get_or rows i row → get_or (map row_point plain) i d ≡ row.point
  point_at i row d lt is =
      let many : i < length plain = omega (arith, lt, as_many plain pool rows are) in
      let r = plain_row pool row in
      get_or-map_at row_point plain i r d many ∙ ap row_point (ap (λ (xs : List TableRow). get_or xs i r) (sym are.same) ∙ get_or-map_at (plain_row pool) rows i row r lt ∙ ap (plain_row pool) (sym is))

  -- one row more
  pub entry_more : (i : ℕ) (row : NumberedRow) → i < length rows → row ≡ get_or rows i row → take i (map row_point plain) ++ row.point ∷ [] ≡ take (i + 1) (map row_point plain)
  entry_more i row lt is =
      let many : i < length (map row_point plain) = omega (arith, lt, as_many plain pool rows are, length-map plain row_point) in
      ap (λ (p : Point). take i (map row_point plain) ++ p ∷ []) (sym (point_at i row row.point lt is)) ∙ sym (take_more (map row_point plain) i row.point many)

  pub all_entries : (i : ℕ) → length rows ≤ i → take i (map row_point plain) ≡ map row_point plain
  all_entries i past = take_all i (map row_point plain) (omega (arith, past, as_many plain pool rows are, length-map plain row_point))
