use Rattle.std.proofs.{Common.{◌∷◌, [], take, List, refl, sym, subst, ◌∙◌, Ok, Err}, lemmas.List.{take_all}}
use Rattle.std.specs.{Prelude.{IfSome, OnOk}, declared.{option.Option.{Option}, result.Result.{Result}}}
use Rattle.osek_standard.specs.declared.point.Point.{Point}
use Rattle.abstract_state.specs.declared.table.TableRow.{TableRow}
use Rattle.numbered_sets.specs.{declared.numbered_entry.NumberedEntry.{NumberedEntry}, Views.{AreNumbersOf}}
use Rattle.point_exits.specs.{declared.group.NumberEnd.{NumberEnd}, Groups.{IsKnownEnd}, Rows.{IsProperRow}}
use Rattle.state_flow.specs.ExitRows.{end_row, rows_with, AreRowsJoined, AreTogether}
use Rattle.state_flow.proofs.JoinedEnds.{whole_proper, ends_joined}
use Rattle.state_flow.proofs.ExitJoins.{joined_nothing, joined_more, cells_after, end_more, end_proper, end_listed}
use Rattle.state_flow.proofs.joining.join_with.Goals as goal

both_ok : {T E P Q R : Type 0} (r : Result T E) → (P → Q → R) → OnOk r P → OnOk r Q → OnOk r R
both_ok (Ok x) f p q = f p q
both_ok (Err e) f p q = tt

pub loop-end-init : goal.loop-end-init
loop-end-init c = (refl, joined_nothing c.args.app.now c.args.pool.now c.args.cells.now.list.items c.requires.cells)

pub join_end-requires-clause-known : goal.join_end-requires-clause-known
join_end-requires-clause-known c = subst (AreNumbersOf c.args.pool.now) (sym c.loop-end.invariant.0) c.requires.known

pub join_end-requires-clause-end : goal.join_end-requires-clause-end
join_end-requires-clause-end c =
    let x = c.end-item.result in
    subst (λ (e : NumberedEntry). IsKnownEnd c.args.pool.now e x) (sym c.loop-end.invariant.0) (c.requires.ends x (end_listed c.args.ends.now c.loop-end.end-index x c.loop-end-test.true c.end-item.is))

pub join_end-requires-clause-proper : goal.join_end-requires-clause-proper
join_end-requires-clause-proper c =
    let x = c.end-item.result in
    subst (λ (e : NumberedEntry). IsProperRow c.args.app.now (end_row c.args.pool.now e x)) (sym c.loop-end.invariant.0)
    (end_proper c.args.app.now c.args.pool.now c.args.entry c.args.ends.now c.loop-end.end-index x c.loop-end-test.true c.end-item.is c.requires.proper)

pub join_end-requires-clause-cells : goal.join_end-requires-clause-cells
join_end-requires-clause-cells c =
    cells_after c.args.app.now c.args.pool.now c.args.cells.now.list.items c.loop-end.cells.list.items (rows_with c.args.pool.now c.args.entry (take c.loop-end.end-index c.args.ends.now)) c.loop-end.invariant.1

pub loop-end-preserved : goal.loop-end-preserved
loop-end-preserved c =
    let app = c.args.app.now in
    let pool = c.args.pool.now in
    let entry = c.args.entry in
    let items = c.args.ends.now in
    let i = c.loop-end.end-index in
    let x = c.end-item.result in
    let cells = c.loop-end.cells.list.items in
    let after = c.join_end.new.cells.list.items in
    let this = subst (λ (e : NumberedEntry). AreRowsJoined app pool cells (end_row pool e x ∷ []) after) c.loop-end.invariant.0 c.in_ok-join_end.ensures.joined in (
      c.in_ok-join_end.ensures.entry ∙ c.loop-end.invariant.0,
      subst (λ (rows : List TableRow). AreRowsJoined app pool c.args.cells.now.list.items rows after) (end_more pool entry items i x c.loop-end-test.true c.end-item.is)
          (joined_more app pool c.args.cells.now.list.items cells after (rows_with pool entry (take i items)) (end_row pool entry x ∷ []) c.loop-end.invariant.1 this),
    )

pub returns : goal.returns
returns c =
    subst (λ (xs : List NumberEnd). AreRowsJoined c.args.app.now c.args.pool.now c.args.cells.now.list.items (rows_with c.args.pool.now c.args.entry xs) c.loop-end.cells.list.items)
    (take_all c.loop-end.end-index c.args.ends.now c.loop-end-test.false) c.loop-end.invariant.1

pub put_in-requires-clause-proper : goal.put_in-requires-clause-proper
put_in-requires-clause-proper c =
    let t = subst (λ (o : Option Point). IfSome o (AreTogether c.args.entry c.args.ends.now)) c.in-Some.is c.joined_target.ensures in
    whole_proper c.args.app.now c.args.pool.now c.args.entry c.args.ends.now c.in-Some.target c.requires.known c.requires.ends t c.masks_are_few.ensures c.requires.proper

pub returns-in-Some : goal.returns-in-Some
returns-in-Some c =
    let app = c.args.app.now in
    let pool = c.args.pool.now in
    let cells = c.args.cells.now.list.items in
    let after = c.put_in.new.cells.list.items in
    let t = subst (λ (o : Option Point). IfSome o (AreTogether c.args.entry c.args.ends.now)) c.in-Some.is c.joined_target.ensures in
    both_ok c.put_in.result
    (λ known joined. ends_joined app pool c.args.entry c.args.ends.now c.in-Some.target c.requires.known c.requires.ends t cells after (record { known = known; joined = joined }))
    c.put_in.ensures.cells c.put_in.ensures.joined
