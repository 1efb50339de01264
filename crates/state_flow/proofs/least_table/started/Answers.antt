use Rattle.std.proofs.Common.{List, [], ◌∷◌, refl, sym, subst, arith}
use Rattle.osek_values.specs.Numbers.{mode_no}
use Rattle.abstract_state.specs.declared.table.PlainEntry.{PlainEntry}
use Rattle.numbered_sets.proofs.NumberingLaws.{longer_onward}
use Rattle.numbered_sets.specs.PlainTables.{row_at}
use Rattle.state_flow.specs.declared.cells.Cell.{Cell}
use Rattle.point_exits.specs.Rows.{IsProperRow}
use Rattle.state_flow.specs.Progress.{AreJoined}
use Rattle.state_flow.proofs.Closing.{started_more, started_all}
use Rattle.state_flow.specs.PlainCells.{plain_cells}
use Rattle.state_flow.proofs.NumberedCells.{cells_on, cells_same}
use Rattle.state_flow.proofs.least_table.started.Goals as goal

pub put_in-requires-clause-cells : goal.put_in-requires-clause-cells
put_in-requires-clause-cells c =
    cells_on c.args.app.now c.loop-mode.pool c.numbered.new.pool c.loop-mode.cells.list.items c.in_ok-entry.ensures.pool
    (record { known = c.loop-mode.invariant.1; proper = c.loop-mode.invariant.2.cells_proper })

pub put_in-requires-clause-proper : goal.put_in-requires-clause-proper
put_in-requires-clause-proper c = subst (λ (e : PlainEntry). IsProperRow c.args.app.now (row_at c.in_ok-row.row.point e)) (sym c.in_ok-entry.ensures.plain) c.in_ok-row.ensures.start.proper

pub loop-mode-preserved : goal.loop-mode-preserved
loop-mode-preserved c =
    let app = c.args.app.now in
    let pool = c.loop-mode.pool in
    let new = c.numbered.new.pool in
    let cells = c.loop-mode.cells.list.items in
    let after = c.put_in.new.cells.list.items in
    let row = c.in_ok-row.row in
    let joined : AreJoined app (plain_cells pool cells) (row ∷ []) (plain_cells new after) =
    subst (λ (xs : List (Cell PlainEntry)). AreJoined app xs (row ∷ []) (plain_cells new after)) (cells_same pool new cells c.in_ok-entry.ensures.pool c.loop-mode.invariant.1)
    (subst (λ (e : PlainEntry). AreJoined app (plain_cells new cells) (row_at row.point e ∷ []) (plain_cells new after)) c.in_ok-entry.ensures.plain c.in_ok-put_in.ensures.joined) in (
      longer_onward c.args.pool.now pool new c.loop-mode.invariant.0 c.in_ok-entry.ensures.pool,
      c.in_ok-put_in.ensures.cells,
      started_more app c.loop-mode.mode (mode_no c.loop-mode.mode) (plain_cells pool cells) (plain_cells new after) row refl
          (omega (arith, c.loop-mode-test.true, c.len-mode-end.ensures)) c.loop-mode.invariant.2 c.in_ok-row.ensures.start joined,
    )

pub returns-clause-progress : goal.returns-clause-progress
returns-clause-progress c = record {
  known = c.loop-mode.invariant.1;
  progress = started_all c.args.app.now c.loop-mode.mode (plain_cells c.loop-mode.pool c.loop-mode.cells.list.items) (omega (arith, c.loop-mode-test.false, c.len-mode-end.ensures)) c.loop-mode.invariant.2;
}
