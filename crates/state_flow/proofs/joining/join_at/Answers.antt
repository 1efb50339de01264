use Rattle.std.proofs.{Common.{◌∷◌, [], get_or, take, List, subst}, lemmas.List.{take_all, get_or_default}}
use Rattle.osek_standard.specs.declared.point.Point.{Point}
use Rattle.osek_standard.specs.declared.point.Point.TheVariants as point
use Rattle.abstract_state.specs.declared.table.TableRow.{TableRow}
use Rattle.state_flow.specs.ExitRows.{rows_at, AreRowsJoined}
use Rattle.state_flow.proofs.ExitJoins.{joined_nothing, joined_more, cells_after, point_row, point_more, point_proper}
use Rattle.state_flow.proofs.joining.join_at.Goals as goal

pub loop-point-init : goal.loop-point-init
loop-point-init c = joined_nothing c.args.app.now c.args.pool.now c.args.cells.now.list.items c.requires.cells

pub put_in-requires-clause-cells : goal.put_in-requires-clause-cells
put_in-requires-clause-cells c =
    cells_after c.args.app.now c.args.pool.now c.args.cells.now.list.items c.loop-point.cells.list.items (rows_at c.args.pool.now c.args.entry.now (take c.loop-point.point-index c.args.points.now)) c.loop-point.invariant

pub put_in-requires-clause-proper : goal.put_in-requires-clause-proper
put_in-requires-clause-proper c =
    point_proper c.args.app.now c.args.pool.now c.args.entry.now c.args.points.now c.loop-point.point-index (get_or c.args.points.now c.loop-point.point-index point.Halted) c.loop-point-test.true (get_or_default c.args.points.now c.loop-point.point-index point.Halted (get_or c.args.points.now c.loop-point.point-index point.Halted) c.loop-point-test.true) c.requires.proper

pub loop-point-preserved : goal.loop-point-preserved
loop-point-preserved c =
    let app = c.args.app.now in
    let pool = c.args.pool.now in
    let entry = c.args.entry.now in
    let items = c.args.points.now in
    let i = c.loop-point.point-index in
    let p = (get_or c.args.points.now c.loop-point.point-index point.Halted) in
    subst (λ (rows : List TableRow). AreRowsJoined app pool c.args.cells.now.list.items rows c.put_in.new.cells.list.items) (point_more pool entry items i p c.loop-point-test.true (get_or_default c.args.points.now c.loop-point.point-index point.Halted (get_or c.args.points.now c.loop-point.point-index point.Halted) c.loop-point-test.true))
    (joined_more app pool c.args.cells.now.list.items c.loop-point.cells.list.items c.put_in.new.cells.list.items (rows_at pool entry (take i items)) (point_row pool entry p ∷ []) c.loop-point.invariant
    (record { known = c.in_ok-put_in.ensures.cells; joined = c.in_ok-put_in.ensures.joined }))

pub returns : goal.returns
returns c =
    subst (λ (ps : List Point). AreRowsJoined c.args.app.now c.args.pool.now c.args.cells.now.list.items (rows_at c.args.pool.now c.args.entry.now ps) c.loop-point.cells.list.items)
    (take_all c.loop-point.point-index c.args.points.now c.loop-point-test.false) c.loop-point.invariant
