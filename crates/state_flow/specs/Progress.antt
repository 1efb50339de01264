-- The table on its way to the least one.
use Rattle.std.specs.Prelude.{◌≡◌, ℕ, ◌+◌, ◌<◌, ◌≤◌, List, length, Some, Contains}
use Rattle.osek_values.specs.declared.{event.Event.{Event}, numbers.ModeNo.{ModeNo}}
use Rattle.osek_standard.specs.{declared.{app.App.{App}, state.State.{State}, point.Point.{Point}}, Kernel.{start, step}}
use Rattle.abstract_state.specs.{declared.table.{PlainEntry.{PlainEntry}, TableRow.{TableRow}}, Tables.{Sets, In, Inductive, IsContained, entry_values}}
use Rattle.flow_model.specs.Effects.{IsAt}
use Rattle.state_flow.specs.{declared.cells.Cell.{Cell}, Cells.{AreCellsInOrder, WasEvaluatedWith, HasEvaluated, HasKnown, waiting_count, ranks}}
use Rattle.point_exits.specs.Rows.{IsProperRow, IsRowIn}
use Rattle.table_rows.specs.declared.bare.BareExit.{BareExit}
use Rattle.state_flow.specs.{Rows.{row_of, sets_in}, KnownCells.{KnowTheirExits}}

-- The cells stand in order, each for a proper row.
pub record AreProperCells (app : App) (cells : List (Cell PlainEntry)) : Type 0 where
  pub order : AreCellsInOrder cells
  pub each : (cell : Cell PlainEntry) → Contains cells cell → IsProperRow app (row_of cell)

-- Each step of a state of the entry at the point leads into the table.
abbrev pub LeadsInto : App → Sets → Point → PlainEntry → Type 0
LeadsInto app table p entry = (s : State) (e : Event) → IsAt app p entry s → In app table (step app s e).state

-- how many values the cells have
abbrev pub values_in : List (Cell PlainEntry) → ℕ
values_in = ranks entry_values

-- Rows were joined to the cells, and nothing else came in.
pub record AreJoined (app : App) (cells : List (Cell PlainEntry)) (rows : List TableRow) (after : List (Cell PlainEntry)) : Type 0 where
  pub cells_proper : AreProperCells app after
  pub evaluated : (cell : Cell PlainEntry) → Contains after cell → (entry : PlainEntry) → WasEvaluatedWith cell entry → HasEvaluated cells cell.point entry
  pub known : (cell : Cell PlainEntry) → Contains after cell → (exits : List BareExit) → cell.exits ≡ Some exits → HasKnown cells cell.point cell.entry exits
  pub grows : IsContained (sets_in cells) (sets_in after)
  pub joins : (row : TableRow) → Contains rows row → IsRowIn (sets_in after) row
  pub least : (other : Sets) → IsContained (sets_in cells) other → ((row : TableRow) → Contains rows row → IsRowIn other row) → IsContained (sets_in after) other
  pub counts : waiting_count after + (length cells + values_in cells) ≤ waiting_count cells + (length after + values_in after)
  pub sizes : length after + waiting_count cells ≤ length cells + waiting_count after

-- What holds between two evaluations, after so many. What a point was evaluated with leads into the table.
pub record Progress (app : App) (cells : List (Cell PlainEntry)) (evaluated : ℕ) : Type 0 where
  pub cells_proper : AreProperCells app cells
  pub start : (mode : ModeNo) → mode.0 < length app.modes → In app (sets_in cells) (start app mode).state
  pub closed : (cell : Cell PlainEntry) → Contains cells cell → (entry : PlainEntry) → WasEvaluatedWith cell entry → LeadsInto app (sets_in cells) cell.point entry
  pub known : KnowTheirExits app cells
  pub least : (other : Sets) → Inductive app other → IsContained (sets_in cells) other
  pub most : evaluated + waiting_count cells ≤ length cells + values_in cells
  pub fewest : length cells ≤ evaluated + waiting_count cells

-- What holds once the starts in the first modes were joined in.
pub record AreStarted (app : App) (modes : ℕ) (cells : List (Cell PlainEntry)) : Type 0 where
  pub cells_proper : AreProperCells app cells
  pub start : (mode : ModeNo) → mode.0 < modes → In app (sets_in cells) (start app mode).state
  pub fresh : (cell : Cell PlainEntry) → Contains cells cell → (entry : PlainEntry) → WasEvaluatedWith cell entry → ⊥
  pub known : KnowTheirExits app cells
  pub least : (other : Sets) → Inductive app other → IsContained (sets_in cells) other
  pub most : waiting_count cells ≤ length cells + values_in cells
  pub fewest : length cells ≤ waiting_count cells
