use Rattle.std.proofs.Common.{List, set, sym, subst}
use Rattle.std.specs.Prelude.{Contains}
use Rattle.std.proofs.lemmas.{Result.{on_ok_weaker}}
use Rattle.numbered_sets.specs.{declared.{numbered_entry.NumberedEntry.{NumberedEntry}, table.NumberedRow.{NumberedRow}}, PlainTables.{plain_rows}}
use Rattle.state_flow.specs.{declared.cells.Cell.{Cell}, PlainCells.{plain_cells}, Numbering.{AreNumberedCells, AreEvaluated}}
use Rattle.state_flow.proofs.{NumberedCells.{lent_there, numbers_there, proper_there, kept_long, exits_there, asked_cells, progress_on}, EvaluatedExits.{numbers_filled, part_known}}
use Rattle.state_flow.proofs.evaluation.evaluate_news.Goals as goal

pub rows_to_evaluate-requires-clause-filled : goal.rows_to_evaluate-requires-clause-filled
rows_to_evaluate-requires-clause-filled c =
    let app = c.args.numbering.now.app.now in
    let pool = c.args.numbering.now.pool in
    let cells = c.args.cells.now.list.items in
    let cell = c.get_mut-cell.result.now in
    let here = lent_there c.args.cells.now.list.items c.args.place c.index_mut.result.now c.get_mut-cell.result.now c.get_mut-cell.ensures.value c.index_mut.ensures.value in
    numbers_filled app c.requires.masks cell.point pool cell.entry (numbers_there app pool cells c.args.place cell c.requires.cells c.requires.waits here) (proper_there app pool cells c.args.place cell c.requires.cells c.requires.waits here)

pub rows_to_evaluate-requires-clause-alike : goal.rows_to_evaluate-requires-clause-alike
rows_to_evaluate-requires-clause-alike c = kept_long c.args.numbering.now.app.now c.args.numbering.now.pool c.args.cells.now.list.items c.args.place c.get_mut-cell.result.now c.requires.cells c.requires.waits (lent_there c.args.cells.now.list.items c.args.place c.index_mut.result.now c.get_mut-cell.result.now c.get_mut-cell.ensures.value c.index_mut.ensures.value)

pub evaluate_each-requires-clause-cells : goal.evaluate_each-requires-clause-cells
evaluate_each-requires-clause-cells c =
    let app = c.args.numbering.now.app.now in
    let pool = c.args.numbering.now.pool in
    let cells = c.args.cells.now.list.items in
    let cell = c.get_mut-cell.result.now in
    let kept = c.rows_to_evaluate.new.cell.before in
    subst (λ (x : Cell NumberedEntry). AreNumberedCells app pool (set cells c.args.place x)) (sym c.rows_to_evaluate.ensures.stays)
    (asked_cells app pool cells c.args.place cell c.requires.cells c.requires.waits (lent_there c.args.cells.now.list.items c.args.place c.index_mut.result.now c.get_mut-cell.result.now c.get_mut-cell.ensures.value c.index_mut.ensures.value) kept c.in_ok-rows.ensures.kept cell.exits)

pub evaluate_each-requires-clause-rows : goal.evaluate_each-requires-clause-rows
evaluate_each-requires-clause-rows c row m =
    let app = c.args.numbering.now.app.now in
    let pool = c.args.numbering.now.pool in
    let cells = c.args.cells.now.list.items in
    let cell = c.get_mut-cell.result.now in
    let here = lent_there c.args.cells.now.list.items c.args.place c.index_mut.result.now c.get_mut-cell.result.now c.get_mut-cell.ensures.value c.index_mut.ensures.value in
    part_known app c.requires.masks cell.point pool cell.entry (numbers_there app pool cells c.args.place cell c.requires.cells c.requires.waits here) (proper_there app pool cells c.args.place cell c.requires.cells c.requires.waits here)
    row (c.in_ok-rows.ensures.rows.parts row (subst (λ (rows : List NumberedRow). Contains rows row) c.as_slice.ensures.value m))

pub returns-clause-progress : goal.returns-clause-progress
returns-clause-progress c =
    let app = c.args.numbering.now.app.now in
    let pool = c.args.numbering.now.pool in
    let cells = c.args.cells.now.list.items in
    let cell = c.get_mut-cell.result.now in
    let kept = c.rows_to_evaluate.new.cell.before in
    let here = lent_there cells c.args.place c.index_mut.result.now cell c.get_mut-cell.ensures.value c.index_mut.ensures.value in
    let rows = c.in_ok-rows.rows.items in
    let after = c.evaluate_each.new.numbering.pool in
    let end = c.evaluate_each.new.cells.list.items in
    on_ok_weaker c.evaluate_each.result
    (λ done n progress.
    progress_on app pool cells c.args.place cell c.requires.cells c.requires.waits here kept c.in_ok-rows.ensures.kept cell.exits rows after end done.known c.in_ok-rows.ensures.rows
    (exits_there app pool cells c.args.place cell c.requires.cells c.requires.waits here n progress)
    (subst (λ (x : Cell NumberedEntry). AreEvaluated app (plain_rows pool rows) (plain_cells pool (set cells c.args.place x)) (plain_cells after end)) c.rows_to_evaluate.ensures.stays
    (subst (λ (xs : List NumberedRow). AreEvaluated app (plain_rows pool xs) (plain_cells pool (set cells c.args.place c.rows_to_evaluate.new.cell)) (plain_cells after end)) c.as_slice.ensures.value done.evaluated)) n progress)
    c.evaluate_each.ensures.evaluated
