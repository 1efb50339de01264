-- The plain tables that tables of numbers stand for.
use Rattle.std.specs.Prelude.{◌≡◌, List, map, Contains}
use Rattle.osek_standard.specs.declared.point.Point.{Point}
use Rattle.abstract_state.specs.declared.table.{PlainEntry.{PlainEntry}, TableRow.{TableRow}, PlainTable.{PlainTable}}
use Rattle.numbered_sets.specs.{Pools.{Values}, Views.{plain_entry, AreNumbersOf}, declared.table.NumberedRow.{NumberedRow}}

abbrev pub row_at : Point → PlainEntry → TableRow
row_at point entry = record { point = point; entry = entry }

abbrev pub plain_row : List Values → NumberedRow → TableRow
plain_row pool row = row_at row.point (plain_entry pool row.entry)

abbrev pub plain_rows : List Values → List NumberedRow → List TableRow
plain_rows pool rows = map (plain_row pool) rows

abbrev pub plain_table : List Values → List NumberedRow → PlainTable
plain_table pool rows = record { rows = plain_rows pool rows }

-- the numbers of each row are those of values of the pool
pub record AreRowsOf (pool : List Values) (rows : List NumberedRow) : Type 0 where
  pub each : (row : NumberedRow) → Contains rows row → AreNumbersOf pool row.entry

-- The rows stand for those of a plain table.
pub record AreRowsFor (plain : List TableRow) (pool : List Values) (rows : List NumberedRow) : Type 0 where
  pub known : AreRowsOf pool rows
  pub same : plain_rows pool rows ≡ plain
