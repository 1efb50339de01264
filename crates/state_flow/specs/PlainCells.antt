-- The cells of plain entries that cells of numbered ones stand for.
use Rattle.std.specs.{Prelude.{List, map, option_map, Contains}, Option.{ForSome}}
use Rattle.abstract_state.specs.declared.table.PlainEntry.{PlainEntry}
use Rattle.numbered_sets.specs.{declared.{numbered_entry.NumberedEntry.{NumberedEntry}, table.NumberedRow.{NumberedRow}}, Pools.{Values}, Views.{plain_entry, AreNumbersOf}}
use Rattle.state_flow.specs.declared.cells.Cell.{Cell}

abbrev pub plain_cell : List Values → Cell NumberedEntry → Cell PlainEntry
plain_cell pool cell = record {
  point = cell.point;
  number = cell.number;
  waiting = cell.waiting;
  entry = plain_entry pool cell.entry;
  before = option_map (plain_entry pool) cell.before;
  exits = cell.exits;
  growth = tt;
}

abbrev pub plain_cells : List Values → List (Cell NumberedEntry) → List (Cell PlainEntry)
plain_cells pool cells = map (plain_cell pool) cells

-- the row of a cell
abbrev pub numbered_row : Cell NumberedEntry → NumberedRow
numbered_row cell = record { point = cell.point; entry = cell.entry }

-- the numbers of each cell are those of values of the pool
pub record AreCellsOf (pool : List Values) (cells : List (Cell NumberedEntry)) : Type 0 where
  pub each : (cell : Cell NumberedEntry) → Contains cells cell → AreNumbersOf pool cell.entry
  pub before : (cell : Cell NumberedEntry) → Contains cells cell → ForSome cell.before (AreNumbersOf pool)
