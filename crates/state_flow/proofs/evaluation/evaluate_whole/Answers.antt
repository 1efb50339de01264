use Rattle.std.proofs.Common.{Some, None, List, [], ◌∷◌, set, refl, subst}
use Rattle.std.proofs.lemmas.{Option.{same_Some}, Result.{on_ok_weaker}}
use Rattle.abstract_state.specs.declared.table.PlainEntry.{PlainEntry}
use Rattle.numbered_sets.specs.{declared.table.NumberedRow.{NumberedRow}, PlainTables.{plain_row}}
use Rattle.point_exits.specs.{declared.group.ExitGroup.{ExitGroup}, Groups.{all_exits}}
use Rattle.table_rows.specs.BareExits.{AreBare, AreBareExitsOf}
use Rattle.state_flow.specs.{declared.cells.Cell.{Cell}, Progress.{AreJoined}, PlainCells.{plain_cells}, ExitRows.{all_rows}}
use Rattle.state_flow.proofs.NumberedCells.{lent_there, asked, nothing_kept, numbers_there, proper_there, asked_cells, progress_on, cells_on, cells_same}
use Rattle.state_flow.proofs.{GrownParts.{whole_beside}, EvaluatedExits.{numbers_filled, exits_known, rows_lead, rows_proper}, Evaluations.{evaluated_one}}
use Rattle.state_flow.proofs.evaluation.evaluate_whole.Goals as goal

pub exit_groups-requires : goal.exit_groups-requires
exit_groups-requires c =
    let app = c.args.numbering.now.app.now in
    let pool = c.args.numbering.now.pool in
    let cell = c.get_mut-cell.result.now in
    let here = lent_there c.args.cells.now.list.items c.args.place c.index_mut.result.now c.get_mut-cell.result.now c.get_mut-cell.ensures.value c.index_mut.ensures.value in
    let numbers = numbers_there app pool c.args.cells.now.list.items c.args.place cell c.requires.cells c.requires.waits here in
    let proper = proper_there app pool c.args.cells.now.list.items c.args.place cell c.requires.cells c.requires.waits here in
    record { point = proper.row.point; numbers = numbers; filled = numbers_filled app c.requires.masks cell.point pool cell.entry numbers proper; allowed = proper.allowed }

pub join_groups-requires-clause-known : goal.join_groups-requires-clause-known
join_groups-requires-clause-known c = c.in_ok-groups.ensures.known

pub join_groups-requires-clause-proper : goal.join_groups-requires-clause-proper
join_groups-requires-clause-proper c =
    let app = c.args.numbering.now.app.now in
    let pool = c.args.numbering.now.pool in
    let cell = c.get_mut-cell.result.now in
    let here = lent_there c.args.cells.now.list.items c.args.place c.index_mut.result.now c.get_mut-cell.result.now c.get_mut-cell.ensures.value c.index_mut.ensures.value in
    let numbers = numbers_there app pool c.args.cells.now.list.items c.args.place cell c.requires.cells c.requires.waits here in
    rows_proper app c.requires.masks cell.point pool cell.entry numbers (proper_there app pool c.args.cells.now.list.items c.args.place cell c.requires.cells c.requires.waits here)
    c.exit_groups.new.numbering.pool c.exit_groups.ensures.grown.pool c.in_ok-groups.groups.items c.in_ok-groups.ensures.known c.in_ok-groups.ensures.exits

pub join_groups-requires-clause-cells : goal.join_groups-requires-clause-cells
join_groups-requires-clause-cells c =
    let app = c.args.numbering.now.app.now in
    let pool = c.args.numbering.now.pool in
    let cells = c.args.cells.now.list.items in
    let cell = c.get_mut-cell.result.now in
    let exits = Some c.in_ok-bare_exits.field-0 in
    cells_on app pool c.exit_groups.new.numbering.pool (set cells c.args.place (asked cell None exits)) c.exit_groups.ensures.grown.pool
    (asked_cells app pool cells c.args.place cell c.requires.cells c.requires.waits (lent_there c.args.cells.now.list.items c.args.place c.index_mut.result.now c.get_mut-cell.result.now c.get_mut-cell.ensures.value c.index_mut.ensures.value) None (nothing_kept cell) exits)

pub returns-clause-progress : goal.returns-clause-progress
returns-clause-progress c =
    let app = c.args.numbering.now.app.now in
    let pool = c.args.numbering.now.pool in
    let cells = c.args.cells.now.list.items in
    let cell = c.get_mut-cell.result.now in
    let here = lent_there c.args.cells.now.list.items c.args.place c.index_mut.result.now c.get_mut-cell.result.now c.get_mut-cell.ensures.value c.index_mut.ensures.value in
    let after = c.exit_groups.new.numbering.pool in
    let longer = c.exit_groups.ensures.grown.pool in
    let groups = c.in_ok-groups.groups.items in
    let end = c.join_groups.new.cells.list.items in
    let row : NumberedRow = record { point = cell.point; entry = cell.entry } in
    let numbers = numbers_there app pool cells c.args.place cell c.requires.cells c.requires.waits here in
    let proper = proper_there app pool cells c.args.place cell c.requires.cells c.requires.waits here in
    let bare = c.in_ok-bare_exits.field-0 in
    let now = set cells c.args.place (asked cell None (Some bare)) in
    let waits_no_more = asked_cells app pool cells c.args.place cell c.requires.cells c.requires.waits here None (nothing_kept cell) (Some bare) in
    on_ok_weaker c.join_groups.result
    (λ joined. progress_on app pool cells c.args.place cell c.requires.cells c.requires.waits here None (nothing_kept cell) (Some bare) (row ∷ []) after end joined.known
    (whole_beside cell.point cell.entry (numbers_filled app c.requires.masks cell.point pool cell.entry numbers proper) row refl refl cell.before)
    (λ exits is. subst (AreBareExitsOf app (plain_row pool row)) (same_Some bare exits is)
    (exits_known app c.requires.masks cell.point pool cell.entry numbers proper after longer groups c.in_ok-groups.ensures.known c.in_ok-groups.ensures.exits bare
    (subst (λ (gs : List ExitGroup). AreBare (all_exits after gs) bare) c.as_slice.ensures.value (c.in_ok-bare_exits.ensures after))))
    (evaluated_one app (plain_row pool row) (all_rows after groups) (plain_cells pool now) (plain_cells after end)
    (rows_lead app c.requires.masks cell.point pool cell.entry numbers proper after longer groups c.in_ok-groups.ensures.known c.in_ok-groups.ensures.exits)
    (subst (λ (xs : List (Cell PlainEntry)). AreJoined app xs (all_rows after groups) (plain_cells after end)) (cells_same pool after now longer waits_no_more.known) joined.joined)))
    c.join_groups.ensures
