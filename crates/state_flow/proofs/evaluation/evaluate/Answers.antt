use Rattle.std.proofs.Common.{List, subst}
use Rattle.std.proofs.lemmas.Result.{on_ok_weaker}
use Rattle.abstract_state.specs.declared.table.PlainEntry.{PlainEntry}
use Rattle.numbered_sets.specs.PlainTables.{plain_row}
use Rattle.state_flow.specs.{declared.cells.Cell.{Cell}, Progress.{AreJoined}, PlainCells.{plain_cells}, ExitRows.{all_rows}}
use Rattle.state_flow.proofs.{NumberedCells.{cells_on, cells_same}, EvaluatedExits.{numbers_filled, rows_lead, rows_proper}, Evaluations.{evaluated_one}}
use Rattle.state_flow.proofs.evaluation.evaluate.Goals as goal

pub exit_groups-requires : goal.exit_groups-requires
exit_groups-requires c =
    let proper = c.requires.row.proper in
    record {
      point = proper.row.point;
      numbers = c.requires.row.numbers;
      filled = numbers_filled c.args.numbering.now.app.now c.requires.masks c.args.row.now.point c.args.numbering.now.pool c.args.row.now.entry c.requires.row.numbers proper;
      allowed = proper.allowed;
    }

pub join_groups-requires-clause-known : goal.join_groups-requires-clause-known
join_groups-requires-clause-known c = c.in_ok-groups.ensures.known

pub join_groups-requires-clause-proper : goal.join_groups-requires-clause-proper
join_groups-requires-clause-proper c =
    rows_proper c.args.numbering.now.app.now c.requires.masks c.args.row.now.point c.args.numbering.now.pool c.args.row.now.entry c.requires.row.numbers c.requires.row.proper c.exit_groups.new.numbering.pool c.exit_groups.ensures.grown.pool c.in_ok-groups.groups.items
    c.in_ok-groups.ensures.known c.in_ok-groups.ensures.exits

pub join_groups-requires-clause-cells : goal.join_groups-requires-clause-cells
join_groups-requires-clause-cells c = cells_on c.args.numbering.now.app.now c.args.numbering.now.pool c.exit_groups.new.numbering.pool c.args.cells.now.list.items c.exit_groups.ensures.grown.pool c.requires.cells

pub returns-clause-evaluated : goal.returns-clause-evaluated
returns-clause-evaluated c =
    let app = c.args.numbering.now.app.now in
    let pool = c.args.numbering.now.pool in
    let row = c.args.row.now in
    let after = c.exit_groups.new.numbering.pool in
    let longer = c.exit_groups.ensures.grown.pool in
    let groups = c.in_ok-groups.groups.items in
    let cells = c.args.cells.now.list.items in
    let end = c.join_groups.new.cells.list.items in
    on_ok_weaker c.join_groups.result
    (λ joined. record {
      known = joined.known;
      evaluated = evaluated_one app (plain_row pool row) (all_rows after groups) (plain_cells pool cells) (plain_cells after end)
          (rows_lead app c.requires.masks row.point pool row.entry c.requires.row.numbers c.requires.row.proper after longer groups c.in_ok-groups.ensures.known c.in_ok-groups.ensures.exits)
          (subst (λ (xs : List (Cell PlainEntry)). AreJoined app xs (all_rows after groups) (plain_cells after end)) (cells_same pool after cells longer c.requires.cells.known) joined.joined);
    })
    c.join_groups.ensures
