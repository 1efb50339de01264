use Rattle.std.proofs.{Common.{◌∷◌, [], take, List, sym, subst}, lemmas.List.{take_all}}
use Rattle.abstract_state.specs.declared.table.TableRow.{TableRow}
use Rattle.numbered_sets.specs.{declared.numbered_entry.NumberedEntry.{NumberedEntry}, Views.{plain_entry, AreNumbersOf}, PlainTables.{row_at}}
use Rattle.point_exits.specs.{declared.group.NumberEnd.{NumberEnd}, Rows.{IsProperRow}}
use Rattle.point_exits.proofs.GrowingPools.{end_known}
use Rattle.state_flow.specs.ExitRows.{end_row, rows_with, AreRowsJoined}
use Rattle.state_flow.proofs.ExitJoins.{joined_nothing, joined_more, cells_after, end_more, end_proper, end_listed}
use Rattle.state_flow.proofs.EndsInTurn.{TakesEnd, end_taken, takes_first, takes_next}
use Rattle.state_flow.proofs.joining.join_in_turn.Goals as goal

pub loop-end-init : goal.loop-end-init
loop-end-init c = (
  λ x m. takes_first c.args.pool.now c.args.entry x (c.requires.ends x m),
  joined_nothing c.args.app.now c.args.pool.now c.args.cells.now.list.items c.requires.cells,
)

pub put-requires-clause-known : goal.put-requires-clause-known
put-requires-clause-known c =
    let x = c.end-item.result in
    (c.loop-end.invariant.0 x (end_listed c.args.ends.now c.loop-end.end-index x c.loop-end-test.true c.end-item.is)).known

pub put-requires-clause-alike : goal.put-requires-clause-alike
put-requires-clause-alike c =
    let x = c.end-item.result in
    (c.loop-end.invariant.0 x (end_listed c.args.ends.now c.loop-end.end-index x c.loop-end-test.true c.end-item.is)).alike

pub put_in-requires-clause-known : goal.put_in-requires-clause-known
put_in-requires-clause-known c =
    let x = c.end-item.result in
    let listed = end_listed c.args.ends.now c.loop-end.end-index x c.loop-end-test.true c.end-item.is in
    let is = end_taken c.args.entry c.loop-end.held (record { sets = c.put.new.self }) x (c.loop-end.invariant.0 x listed) c.in_ok-put.ensures.sets in
    subst (AreNumbersOf c.args.pool.now) (sym is) (end_known c.args.pool.now c.args.entry x c.requires.known (c.requires.ends x listed))

pub put_in-requires-clause-proper : goal.put_in-requires-clause-proper
put_in-requires-clause-proper c =
    let x = c.end-item.result in
    let listed = end_listed c.args.ends.now c.loop-end.end-index x c.loop-end-test.true c.end-item.is in
    let is = end_taken c.args.entry c.loop-end.held (record { sets = c.put.new.self }) x (c.loop-end.invariant.0 x listed) c.in_ok-put.ensures.sets in
    subst (λ (e : NumberedEntry). IsProperRow c.args.app.now (row_at x.target (plain_entry c.args.pool.now e))) (sym is)
    (end_proper c.args.app.now c.args.pool.now c.args.entry c.args.ends.now c.loop-end.end-index x c.loop-end-test.true c.end-item.is c.requires.proper)

pub put_in-requires-clause-cells : goal.put_in-requires-clause-cells
put_in-requires-clause-cells c =
    let pool = c.args.pool.now in
    let done = rows_with pool c.args.entry (take c.loop-end.end-index c.args.ends.now) in
    cells_after c.args.app.now pool c.args.cells.now.list.items c.loop-end.cells.list.items done c.loop-end.invariant.1

pub loop-end-preserved : goal.loop-end-preserved
loop-end-preserved c =
    let app = c.args.app.now in
    let pool = c.args.pool.now in
    let entry = c.args.entry in
    let items = c.args.ends.now in
    let i = c.loop-end.end-index in
    let x = c.end-item.result in
    let first = c.args.cells.now.list.items in
    let cells = c.loop-end.cells.list.items in
    let after = c.put_in.new.cells.list.items in
    let held : NumberedEntry = record { sets = c.put.new.self } in
    let listed = end_listed items i x c.loop-end-test.true c.end-item.is in
    let is = end_taken entry c.loop-end.held held x (c.loop-end.invariant.0 x listed) c.in_ok-put.ensures.sets in
    let at_end = λ (e : NumberedEntry). row_at x.target (plain_entry pool e) in
    let put : AreRowsJoined app pool cells (at_end held ∷ []) after = record { known = c.in_ok-put_in.ensures.cells; joined = c.in_ok-put_in.ensures.joined } in
    let this = subst (λ (e : NumberedEntry). AreRowsJoined app pool cells (at_end e ∷ []) after) is put in
    let done = rows_with pool entry (take i items) in
    let joined = joined_more app pool first cells after done (end_row pool entry x ∷ []) c.loop-end.invariant.1 this in (
      λ y m.
          (let next = takes_next pool entry x y (c.requires.ends x listed) (c.requires.ends y m) (c.requires.one x y listed m) in
          subst (λ (e : NumberedEntry). TakesEnd entry e y) (sym is) next),
      subst (λ (rows : List TableRow). AreRowsJoined app pool first rows after) (end_more pool entry items i x c.loop-end-test.true c.end-item.is) joined,
    )

pub returns : goal.returns
returns c =
    let app = c.args.app.now in
    let pool = c.args.pool.now in
    let first = c.args.cells.now.list.items in
    let after = c.loop-end.cells.list.items in
    subst (λ (xs : List NumberEnd). AreRowsJoined app pool first (rows_with pool c.args.entry xs) after)
    (take_all c.loop-end.end-index c.args.ends.now c.loop-end-test.false) c.loop-end.invariant.1
