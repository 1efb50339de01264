-- Rows of a table, and the table that cells stand for.
use Rattle.std.specs.Prelude.{List, map}
use Rattle.abstract_state.specs.{declared.table.{PlainEntry.{PlainEntry}, TableRow.{TableRow}, PlainTable.{PlainTable}}, Tables.{Sets, sets_of}}
use Rattle.numbered_sets.specs.PlainTables.{row_at}
use Rattle.state_flow.specs.declared.cells.Cell.{Cell}

abbrev pub row_of : Cell PlainEntry → TableRow
row_of cell = row_at cell.point cell.entry

-- the table that cells stand for, and what it says
abbrev pub table_of : List (Cell PlainEntry) → PlainTable
table_of cells = record { rows = map row_of cells }

abbrev pub sets_in : List (Cell PlainEntry) → Sets
sets_in cells = sets_of (table_of cells)
