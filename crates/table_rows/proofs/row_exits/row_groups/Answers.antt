use Rattle.numbered_sets.{specs.PlainTables.{plain_row}, proofs.WrittenRows.{number_domains_of}}
use Rattle.point_exits.{specs.Groups.{all_exits}, proofs.EntryCounts.{filled_numbers}}
use Rattle.table_rows.proofs.row_exits.row_groups.Goals as goal

pub exit_groups-requires : goal.exit_groups-requires
exit_groups-requires c =
    let app = c.args.numbering.now.app.now in
    let pool = c.args.numbering.now.pool in
    let row = c.args.row.now in
    let proper = c.requires.proper in
    record {
      point = proper.row.point;
      numbers = c.requires.numbers;
      filled = filled_numbers app pool row.entry (number_domains_of app pool row proper.row) proper.filled;
      allowed = proper.allowed;
    }

pub returns-clause-exits : goal.returns-clause-exits
returns-clause-exits c =
    let app = c.args.numbering.now.app.now in
    let row = plain_row c.args.numbering.now.pool c.args.row.now in
    let exits = all_exits c.exit_groups.new.numbering.pool c.in_ok-groups.groups.items in
    let point = c.requires.proper.row.point in
    let are = c.in_ok-groups.ensures.exits in
    record {
      steps = c.steps_end_at_exits.ensures.steps app row.point row.entry exits point are;
      instructions = c.steps_end_at_exits.ensures.instructions app row.point row.entry exits point are;
      exact = c.steps_end_at_exits.ensures.exact app row.point row.entry exits point are c.requires.proper.allowed;
    }
