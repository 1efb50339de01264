-- The rows of cells, the table that they make, and the exits that they know.
use Rattle.std.proofs.Common.{◌≡◌, ◌⊎◌, Some, List, [], ◌∷◌, ◌++◌, map, refl, sym, ap, subst, ◌∙◌, inl, inr}
use Rattle.std.specs.Prelude.{Contains}
use Rattle.std.proofs.lemmas.List.Elements.{Contains-push}
use Rattle.osek_standard.specs.{declared.app.App.{App}, Points.{point_number}}
use Rattle.osek_standard.proofs.Members.{among_left, among_contained, contained_among, map_among}
use Rattle.abstract_state.specs.declared.table.{TableRow.{TableRow}, PlainTable.{PlainTable}}
use Rattle.numbered_sets.specs.{declared.{numbered_entry.NumberedEntry.{NumberedEntry}, table.NumberedRow.{NumberedRow}}, Pools.{Values}, Views.{AreNumbersOf}}
use Rattle.numbered_sets.specs.PlainTables.{plain_row, plain_rows, plain_table, AreRowsOf}
use Rattle.table_rows.specs.{declared.bare.PointExits.{PointExits}, BareExits.{AreBareExitsOf, AreKnownExits}}
use Rattle.table_rows.proofs.OrderLaws.{same_by}
use Rattle.state_flow.specs.{declared.cells.Cell.{Cell}, Cells.{cell_number, AreCellsInOrder}, Rows.{row_of, table_of}, PlainCells.{plain_cell, plain_cells, numbered_row, AreCellsOf}}
use Rattle.state_flow.specs.KnownCells.{KnowTheirExits, AreOfCells}
use Rattle.state_flow.proofs.{RowLaws.{listed_row}, JoiningCells.{among_plain}}

rows_alike : (pool : List Values) (cells : List (Cell NumberedEntry)) → plain_rows pool (map numbered_row cells) ≡ map row_of (plain_cells pool cells)
rows_alike pool [] = refl
rows_alike pool (x ∷ xs) = ap (λ (rs : List TableRow). plain_row pool (numbered_row x) ∷ rs) (rows_alike pool xs)

module _ (pool : List Values) (cells : List (Cell NumberedEntry)) (rows : List NumberedRow) (is : rows ≡ map numbered_row cells) where
  pub rows_known : AreCellsOf pool cells → AreRowsOf pool rows
  rows_known known = record {
    each = λ row m.
        (let x = map_among numbered_row row cells (contained_among (map numbered_row cells) row (subst (λ (rs : List NumberedRow). Contains rs row) is m)) in
        subst (λ (r : NumberedRow). AreNumbersOf pool r.entry) (sym x.2) (known.each x.0 (among_contained cells x.0 x.1)));
  }

  -- the table of the rows is that of the cells' values
  pub table_alike : (t : PlainTable) → t ≡ plain_table pool rows → t ≡ table_of (plain_cells pool cells)
  table_alike t e = e ∙ ap (λ (rs : List NumberedRow). plain_table pool rs) is ∙ ap (λ (rs : List TableRow). record { rows = rs }) (rows_alike pool cells)

-- what is known of a point's exits is of the row there: no other cell has its number
pub exits_of_rows : (app : App) (pool : List Values) (cells : List (Cell NumberedEntry)) (known : List PointExits) → AreCellsInOrder (plain_cells pool cells) → KnowTheirExits app (plain_cells pool cells) → AreOfCells cells known
    → AreKnownExits app (table_of (plain_cells pool cells)).rows known
exits_of_rows app pool cells known order know of_cells x row m listed at =
    let plain = plain_cells pool cells in
    let of_cell = of_cells x m in
    let own = plain_cell pool of_cell.cell in
    let here : Contains plain own = among_plain pool cells of_cell.cell of_cell.among in
    let there = listed_row plain row listed in
    let same : own ≡ there.0 = same_by cell_number plain order.ascend own there.0 here there.1 (ap point_number (of_cell.at ∙ sym at ∙ ap (λ (r : TableRow). r.point) there.2)) in
    subst (λ (r : TableRow). AreBareExitsOf app r x.exits) (ap row_of same ∙ sym there.2) (know own here x.exits of_cell.knows)

-- one cell more, with its exits if it knows them
pub exits_more : (cells : List (Cell NumberedEntry)) (cell : Cell NumberedEntry) (known : List PointExits) (now : List PointExits) → AreOfCells cells known
    → ((x : PointExits) → Contains now x → Contains known x ⊎ ((x.point ≡ cell.point) × (cell.exits ≡ Some x.exits))) → AreOfCells (cells ++ cell ∷ []) now
exits_more cells cell known now so_far added x m = elim (added x m) [
  | inl old ↦ (let h = so_far x old in record { cell = h.cell; among = among_contained (cells ++ cell ∷ []) h.cell (among_left h.cell cells (cell ∷ []) (contained_among cells h.cell h.among)); at = h.at; knows = h.knows })
  | inr new ↦ record { cell = cell; among = Contains-push cells cell; at = sym new.0; knows = new.1 }
]
