-- Cells of numbered entries, over the plain ones that they stand for.
use Rattle.std.specs.Prelude.{◌≡◌, ◌⊎◌, ℕ, Some, List, Contains}
use Rattle.osek_standard.specs.declared.{app.App.{App}, state.State.{State}}
use Rattle.abstract_state.specs.{declared.table.{PlainEntry.{PlainEntry}, TableRow.{TableRow}}, Domains.{IsBelow}}
use Rattle.flow_model.specs.Effects.{IsAt}
use Rattle.numbered_sets.specs.{declared.{numbered_entry.NumberedEntry.{NumberedEntry}, table.NumberedRow.{NumberedRow}}, Pools.{Values}}
use Rattle.numbered_sets.specs.{Views.{AreNumbersOf}, PlainTables.{plain_row, plain_rows}}
use Rattle.point_exits.specs.Rows.{IsProperRow}
use Rattle.state_flow.specs.{declared.cells.Cell.{Cell}, Reaching.{StepsLeadTo, IsReachedFrom}, Progress.{AreProperCells, AreJoined, Progress}, PlainCells.{plain_cells, AreCellsOf}}

pub record AreNumberedCells (app : App) (pool : List Values) (cells : List (Cell NumberedEntry)) : Type 0 where
  pub known : AreCellsOf pool cells
  pub proper : AreProperCells app (plain_cells pool cells)

-- A row that can be evaluated: its numbers are those of values of the pool, and it is proper.
pub record IsKnownRow (app : App) (pool : List Values) (row : NumberedRow) : Type 0 where
  pub numbers : AreNumbersOf pool row.entry
  pub proper : IsProperRow app (plain_row pool row)

-- What the steps from the states of rows lead to was joined to the cells, and nothing else came in.
pub record AreEvaluated (app : App) (rows : List TableRow) (cells after : List (Cell PlainEntry)) : Type 0 where
  pub ends : List TableRow
  pub covers : (row : TableRow) → Contains rows row → StepsLeadTo app row ends
  pub each : (end : TableRow) → Contains ends end → IsReachedFrom app rows end
  pub joined : AreJoined app cells ends after

-- Rows of a pool were evaluated, and the numbers of the cells are those of values of the pool that it grew to.
pub record AreRowsEvaluated (app : App) (pool : List Values) (rows : List NumberedRow) (cells : List (Cell NumberedEntry)) (after : List Values) (end : List (Cell NumberedEntry)) : Type 0 where
  pub known : AreCellsOf after end
  pub evaluated : AreEvaluated app (plain_rows pool rows) (plain_cells pool cells) (plain_cells after end)

-- some row has the state
pub record HasState (app : App) (rows : List TableRow) (s : State) : Type 0 where
  pub row : TableRow
  pub among : Contains rows row
  pub at : IsAt app row.point row.entry s

-- the cell was evaluated with an entry that has the state
pub record HadState (app : App) (cell : Cell PlainEntry) (s : State) : Type 0 where
  pub entry : PlainEntry
  pub is : cell.before ≡ Some entry
  pub at : IsAt app cell.point entry s

-- Rows of parts of the cell's entry that together have each state that it wasn't evaluated with.
pub record AreRowsOfCell (app : App) (cell : Cell PlainEntry) (rows : List TableRow) : Type 0 where
  pub at : (row : TableRow) → Contains rows row → row.point ≡ cell.point
  pub below : (row : TableRow) → Contains rows row → IsBelow row.entry cell.entry
  pub all : (s : State) → IsAt app cell.point cell.entry s → HadState app cell s ⊎ HasState app rows s

-- What holds between two evaluations, after so many, of the plain cells.
pub record HasProgress (app : App) (pool : List Values) (cells : List (Cell NumberedEntry)) (evaluated : ℕ) : Type 0 where
  pub known : AreCellsOf pool cells
  pub progress : Progress app (plain_cells pool cells) evaluated
