-- What the table of cells says, cell by cell, and that it is proper.
use Rattle.std.proofs.Common.{◌≡◌, ℕ, ◌+◌, ◌<◌, false, None, List, [], length, map, get_or, IsTrue, refl, sym, ap, subst, ◌∙◌, arith}
use Rattle.std.specs.{Prelude.{Contains}, List.Sorted.{IsStrictlySortedBy}, Ordering.{nat_cmp}}
use Rattle.std.proofs.lemmas.{List.{length-map, get_or-map, Elements.{Contains-get_or}}, Map.Keys.{sorted_from_strictly_increasing}}
use Rattle.std.proofs.lemmas.Map.Views.{Contains-from_any, list_any-from_Contains}
use Rattle.osek_standard.specs.declared.{app.App.{App}, point.Point.{Point}}
use Rattle.osek_standard.specs.declared.point.Point.TheVariants as point
use Rattle.osek_standard.specs.Points.{point_number, IsPoint}
use Rattle.osek_standard.proofs.Members.{among_map, map_among, contained_among, among_contained}
use Rattle.abstract_state.specs.{declared.{value.PartValue.{PartValue}, table.{PlainEntry.{PlainEntry}, TableRow.{TableRow}}}, Components.{IsAllowed}}
use Rattle.abstract_state.specs.{Tables.{Sets, IsContained, IsProper, set_at, is_member}, Written.{IsRow, IsWritten}}
use Rattle.abstract_state.proofs.{OrderLaws.{part_right, part_laws}, EqualityLaws.{written_entry, written_value}}
use Rattle.state_flow.specs.{declared.cells.Cell.{Cell}, Cells.{cell_number, AreCellsInOrder}}
use Rattle.point_exits.specs.Rows.{IsRowIn}
use Rattle.point_exits.proofs.ProperRows.{set_known}
use Rattle.state_flow.specs.{Rows.{row_of, table_of, sets_in}, Progress.{AreProperCells}}
use Rattle.table_rows.proofs.OrderLaws.{same_by}

-- the cell of a row
pub record CellOf (cells : List (Cell PlainEntry)) (p : Point) : Type 0 where
  pub cell : Cell PlainEntry
  pub among : Contains cells cell
  pub at : cell.point ≡ p

pub record CellWith (cells : List (Cell PlainEntry)) (p : Point) (c : ℕ) (v : PartValue) : Type 0 where
  pub cell : Cell PlainEntry
  pub among : Contains cells cell
  pub at : cell.point ≡ p
  pub member : IsTrue (is_member (set_at cell.entry c) v)

pub row_listed : (cells : List (Cell PlainEntry)) (cell : Cell PlainEntry) → Contains cells cell → Contains (map row_of cells) (row_of cell)
row_listed cells cell h = among_contained (map row_of cells) (row_of cell) (among_map row_of cell cells (contained_among cells cell h))

pub listed_row : (cells : List (Cell PlainEntry)) (row : TableRow) → Contains (map row_of cells) row → (cell : Cell PlainEntry) × Contains cells cell × (row ≡ row_of cell)
listed_row cells row h =
    let m = map_among row_of row cells (contained_among (map row_of cells) row h) in
    (m.0, among_contained cells m.0 m.1, m.2)

module _ (cells : List (Cell PlainEntry)) where
  pub entry_cell : (p : Point) → IsTrue ((sets_in cells).entry p) → CellOf cells p
  entry_cell p e =
      let r = (written_entry (table_of cells) p).0 e in
      let x = listed_row cells r.row r.among in
      record { cell = x.0; among = x.1; at = sym (ap (λ (y : TableRow). y.point) x.2) ∙ r.point }

  pub cell_entry : (cell : Cell PlainEntry) → Contains cells cell → IsTrue ((sets_in cells).entry cell.point)
  cell_entry cell h = (written_entry (table_of cells) cell.point).1 (record { row = row_of cell; among = row_listed cells cell h; point = refl })

  pub value_cell : (p : Point) (c : ℕ) (v : PartValue) → IsTrue ((sets_in cells).has p c v) → CellWith cells p c v
  value_cell p c v e =
      let r = (written_value (table_of cells) p c v).0 e in
      let x = listed_row cells r.row r.among in
      record {
        cell = x.0;
        among = x.1;
        at = sym (ap (λ (y : TableRow). y.point) x.2) ∙ r.point;
        member = ap (λ (y : TableRow). is_member (set_at y.entry c) v) (sym x.2) ∙ list_any-from_Contains part_laws v (set_at r.row.entry c).members r.member;
      }

  pub cell_value : (cell : Cell PlainEntry) (c : ℕ) (v : PartValue) → Contains cells cell → IsTrue (is_member (set_at cell.entry c) v) → IsTrue ((sets_in cells).has cell.point c v)
  cell_value cell c v h m = (written_value (table_of cells) cell.point c v).1 (record { row = row_of cell; among = row_listed cells cell h; point = refl; member = Contains-from_any part_right v (set_at cell.entry c).members m })

  pub cell_in : (cell : Cell PlainEntry) → Contains cells cell → IsRowIn (sets_in cells) (row_of cell)
  cell_in cell h = record { entry = cell_entry cell h; has = λ c v m. cell_value cell c v h m }

  -- what the table has at a cell's point, the cell has
  pub only_there : (cell : Cell PlainEntry) (c : ℕ) (v : PartValue) → AreCellsInOrder cells → Contains cells cell → IsTrue ((sets_in cells).has cell.point c v) → IsTrue (is_member (set_at cell.entry c) v)
  only_there cell c v order h m =
      let x = value_cell cell.point c v m in
      let same : x.cell ≡ cell = same_by cell_number cells order.ascend x.cell cell x.among h (ap point_number x.at) in
      subst (λ (y : Cell PlainEntry). IsTrue (is_member (set_at y.entry c) v)) same x.member

  -- a table that has each cell's row contains that of the cells
  pub cells_contained : (other : Sets) → ((cell : Cell PlainEntry) → Contains cells cell → IsRowIn other (row_of cell)) → IsContained (sets_in cells) other
  cells_contained other h = record {
    entry = λ p e. let x = entry_cell p e in subst (λ (q : Point). IsTrue (other.entry q)) x.at (h x.cell x.among).entry;
    has = λ p c v e. let x = value_cell p c v e in subst (λ (q : Point). IsTrue (other.has q c v)) x.at ((h x.cell x.among).has c v x.member);
  }

pub contained_row : (table other : Sets) (row : TableRow) → IsContained table other → IsRowIn table row → IsRowIn other row
contained_row table other row x h = record { entry = x.entry row.point h.entry; has = λ c v m. x.has row.point c v (h.has c v m) }

-- the points' numbers, in the order of the rows
abbrev numbers : List (Cell PlainEntry) → List ℕ
numbers cells = map (λ (row : TableRow). point_number row.point) (map row_of cells)

abbrev no_cell : Cell PlainEntry
no_cell = record { point = point.Halted; number = 0; waiting = false; entry = record { sets = [] }; before = None; exits = None; growth = tt }

pub numbers_long : (cells : List (Cell PlainEntry)) → length (numbers cells) ≡ length cells
numbers_long cells = length-map (map row_of cells) (λ (row : TableRow). point_number row.point) ∙ length-map cells row_of

number_at : (cells : List (Cell PlainEntry)) (k : ℕ) → k < length cells → get_or (numbers cells) k 0 ≡ cell_number (get_or cells k no_cell)
number_at cells k lt =
    let long = length-map cells row_of in
    get_or-map (λ (row : TableRow). point_number row.point) (map row_of cells) k (row_of no_cell) 0 (omega (arith, lt, long))
    ∙ ap (λ (row : TableRow). point_number row.point) (get_or-map row_of cells k no_cell (row_of no_cell) lt)

pub numbers_ascend : (cells : List (Cell PlainEntry)) → AreCellsInOrder cells → IsStrictlySortedBy nat_cmp (numbers cells)
numbers_ascend cells order = sorted_from_strictly_increasing (numbers cells) (λ k lt.
    let long = numbers_long cells in
    let further : k + 1 < length cells = omega (arith, lt, long) in
    omega (arith, number_at cells k (omega (arith, further)), number_at cells (k + 1) further, order.ascend.before k (k + 1) no_cell (omega arith) further))

module _ (app : App) (cells : List (Cell PlainEntry)) (proper_cells : AreProperCells app cells) where
  pub proper_table : IsProper app (sets_in cells)
  proper_table = record {
    points = λ p e. let x = entry_cell cells p e in subst (IsPoint app) x.at (proper_cells.each x.cell x.among).row.point;
    entry = λ p c v m. let x = value_cell cells p c v m in subst (λ (q : Point). IsTrue ((sets_in cells).entry q)) x.at (cell_entry cells x.cell x.among);
    known = λ p c v m. let x = value_cell cells p c v m in set_known app x.cell.entry c v (proper_cells.each x.cell x.among).row.domains x.member;
    allowed = λ p c v m.
        let x = value_cell cells p c v m in
        let known = set_known app x.cell.entry c v (proper_cells.each x.cell x.among).row.domains x.member in
        subst (λ (q : Point). IsAllowed app q c v) x.at ((proper_cells.each x.cell x.among).allowed c v known x.member);
    filled = λ p c e lt.
        let x = entry_cell cells p e in
        let f = (proper_cells.each x.cell x.among).filled c lt in
        (f.value, subst (λ (q : Point). IsTrue ((sets_in cells).has q c f.value)) x.at (cell_value cells x.cell c f.value x.among f.member));
  }

  pub written : IsWritten app (table_of cells)
  written = record {
    ascending = numbers_ascend cells proper_cells.order;
    rows = λ i d lt. let x = listed_row cells (get_or (map row_of cells) i d) (Contains-get_or (map row_of cells) i d lt) in subst (IsRow app) (sym x.2) (proper_cells.each x.0 x.1).row;
    proper = proper_table;
  }
