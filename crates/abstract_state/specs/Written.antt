-- Tables as the analysis writes them.
use Rattle.std.specs.{Prelude.{◌≡◌, map, All}, List.Sorted.{IsStrictlySortedBy}, Ordering.{nat_cmp}}
use Rattle.osek_standard.specs.{declared.app.App.{App}, Points.{point_number, IsPoint}}
use Rattle.abstract_state.specs.{declared.table.{TableRow.{TableRow}, PlainTable.{PlainTable}}, Tables.{IsProper, sets_of}, Domains.{domains, domains_of, IsSoundEntry}}

-- A row stands at a point of the application, with a sound entry over its domains.
pub record IsRow (app : App) (row : TableRow) : Type 0 where
  pub point : IsPoint app row.point
  pub sound : IsSoundEntry row.entry
  pub domains : domains row.entry ≡ domains_of app

-- The rows strictly ascend by their points, and the table is proper.
pub record IsWritten (app : App) (table : PlainTable) : Type 0 where
  pub ascending : IsStrictlySortedBy nat_cmp (map (λ (row : TableRow). point_number row.point) table.rows)
  pub rows : All (IsRow app) table.rows
  pub proper : IsProper app (sets_of table)
