-- The rows of a written table: the states of each, and the edges that begin there.
use Rattle.std.proofs.Common.{IsTrue, subst}
use Rattle.std.specs.Prelude.{Contains}
use Rattle.osek_standard.specs.{declared.{app.App.{App}, point.Point.{Point}}}
use Rattle.abstract_state.specs.{declared.table.{TableRow.{TableRow}, PlainTable.{PlainTable}}, Edges.{Edge}}
use Rattle.abstract_state.specs.Tables.{sets_of, HasRow}
use Rattle.abstract_state.specs.Written.{IsWritten}
use Rattle.abstract_state.proofs.EqualityLaws.{written_entry}
use Rattle.table_rows.proofs.TableRows.{in_row, row_in}
use Rattle.global_cfg.specs.Targets.{LeadsTo}

module _ (app : App) (table : PlainTable) (written : IsWritten app table) where
  module _ (row : TableRow) (listed : Contains table.rows row) where
    -- the edges that begin there are those of its entry
    pub edge_shown : (q : Point) → LeadsTo app row.point row.entry q → Edge app (sets_of table) row.point q
    edge_shown q x = record { from = x.from; event = x.event; inside = row_in app table written row listed x.from x.at; begins = x.at.point; ends = x.ends; moves = x.moves }

    pub edge_leads : (q : Point) → Edge app (sets_of table) row.point q → LeadsTo app row.point row.entry q
    edge_leads q x = record { from = x.from; event = x.event; at = in_row app table written row listed x.from x.inside x.begins; ends = x.ends; moves = x.moves }

  -- an edge begins at a row's point
  pub edge_row : (p q : Point) → Edge app (sets_of table) p q → HasRow table p
  edge_row p q x = (written_entry table p).0 (subst (λ (r : Point). IsTrue ((sets_of table).entry r)) x.begins x.inside.entry)
