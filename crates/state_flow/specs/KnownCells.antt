-- The exits that cells know.
use Rattle.std.specs.Prelude.{◌≡◌, List, Some, Contains}
use Rattle.osek_standard.specs.declared.app.App.{App}
use Rattle.abstract_state.specs.declared.table.PlainEntry.{PlainEntry}
use Rattle.numbered_sets.specs.declared.numbered_entry.NumberedEntry.{NumberedEntry}
use Rattle.table_rows.specs.{declared.bare.{BareExit.{BareExit}, PointExits.{PointExits}}, BareExits.{AreBareExitsOf}}
use Rattle.state_flow.specs.{declared.cells.Cell.{Cell}, Rows.{row_of}}

-- the exits that a cell knows are those of its row
abbrev pub KnowTheirExits : App → List (Cell PlainEntry) → Type 0
KnowTheirExits app cells = (cell : Cell PlainEntry) → Contains cells cell → (exits : List BareExit) → cell.exits ≡ Some exits → AreBareExitsOf app (row_of cell) exits

-- the exits that a cell of their point knows
pub record IsOfCell (cells : List (Cell NumberedEntry)) (x : PointExits) : Type 0 where
  pub cell : Cell NumberedEntry
  pub among : Contains cells cell
  pub at : cell.point ≡ x.point
  pub knows : cell.exits ≡ Some x.exits

abbrev pub AreOfCells : List (Cell NumberedEntry) → List PointExits → Type 0
AreOfCells cells known = (x : PointExits) → Contains known x → IsOfCell cells x
