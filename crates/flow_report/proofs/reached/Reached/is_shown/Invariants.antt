use Rattle.abstract_state.specs.declared.table.TableRow.{TableRow}
use Rattle.numbered_sets.specs.PlainTables.{plain_rows}
use Rattle.flow_report.specs.Reached.{HasPassing}
use Rattle.flow_report.proofs.ShownRows.{IsOfNone}
use Rattle.flow_report.proofs.reached.Reached.is_shown.Given as goal

abbrev pub invariant-loop-row : goal.invariant-loop-row
invariant-loop-row l = IsOfNone (λ (row : TableRow). HasPassing l.component l.test row.entry) (plain_rows l.self.pool.now l.self.rows.now) l.row-index
