-- The rows of a written table, by number.
use Rattle.std.proofs.Common.{List, sym, subst}
use Rattle.osek_standard.specs.declared.app.App.{App}
use Rattle.abstract_state.specs.{declared.table.{TableRow.{TableRow}, PlainTable.{PlainTable}}, Tables.{sets_of}, Written.{IsWritten}}
use Rattle.numbered_sets.specs.{declared.table.NumberedRow.{NumberedRow}, Pools.{Values}, PlainTables.{AreRowsFor}}
use Rattle.table_rows.specs.Rows.{AreRowsFrom}
use Rattle.flow_report.specs.{FindingOrder.{Rank}, Progress.{AreListed}, Reached.{table_of}, declared.finding.Finding.{Finding}}

abbrev table_with : List TableRow → PlainTable
table_with rows = record { rows = rows }

module _ (app : App) (table : PlainTable) (pool : List Values) (rows : List NumberedRow) (are : AreRowsFor table.rows pool rows) where
  pub written_rows : IsWritten app table → AreRowsFrom app pool rows
  written_rows w = record { known = are.known; written = subst (λ (rs : List TableRow). IsWritten app (table_with rs)) (sym are.same) w }

  pub by_table : (r : Rank) (fs : List Finding) → AreListed app (table_of pool rows) r fs → AreListed app (sets_of table) r fs
  by_table r fs l = subst (λ (rs : List TableRow). AreListed app (sets_of (table_with rs)) r fs) are.same l

  pub by_rows : (r : Rank) (fs : List Finding) → AreListed app (sets_of table) r fs → AreListed app (table_of pool rows) r fs
  by_rows r fs l = subst (λ (rs : List TableRow). AreListed app (sets_of (table_with rs)) r fs) (sym are.same) l
