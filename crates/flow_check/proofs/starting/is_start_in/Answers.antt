use Rattle.std.proofs.Common.{[], sym, ◌∙◌, get_or}
use Rattle.osek_standard.specs.declared.point.Point.TheVariants as point
use Rattle.numbered_sets.specs.declared.table.NumberedRow.{NumberedRow}
use Rattle.table_rows.proofs.TableRows.{first_listed, pool_is, in_order}
use Rattle.flow_check.proofs.StartLaws.{on_true, on_false, start_told_in, start_told_out}
use Rattle.flow_check.proofs.starting.is_start_in.Goals as goal

no_row : NumberedRow
no_row = record { point = point.Halted; entry = record { sets = [] } }

pub numbered-requires-clause-domains : goal.numbered-requires-clause-domains
numbered-requires-clause-domains c =
    let app = c.args.app.now in
    let pool = c.args.pool.now in
    let rows = c.args.rows.now in
    c.in_ok-row.ensures.start.proper.row.domains ∙ sym (pool_is app pool rows c.requires.rows (get_or rows 0 no_row) (first_listed app pool rows c.requires.rows c.requires.some no_row))

pub numbered-requires-clause-sound : goal.numbered-requires-clause-sound
numbered-requires-clause-sound c = c.in_ok-row.ensures.start.proper.row.sound.sets

pub is_in-requires : goal.is_in-requires
is_in-requires c = in_order c.args.app.now c.args.pool.now c.args.rows.now c.requires.rows

pub returns-clause-within : goal.returns-clause-within
returns-clause-within c =
    let app = c.args.app.now in
    let pool = c.args.pool.now in
    let rows = c.args.rows.now in
    on_true c.is_in.result
    (start_told_in app pool c.numbered.new.pool rows c.requires.rows c.in_ok-entry.ensures.pool (get_or rows 0 no_row) (first_listed app pool rows c.requires.rows c.requires.some no_row) c.args.mode c.requires.mode c.in_ok-row.row
    c.in_ok-row.ensures.row c.in_ok-row.ensures.start c.in_ok-entry.entry c.in_ok-entry.ensures.plain)
    c.is_in.ensures.within

pub returns-clause-out : goal.returns-clause-out
returns-clause-out c =
    let app = c.args.app.now in
    let pool = c.args.pool.now in
    let rows = c.args.rows.now in
    on_false c.is_in.result
    (start_told_out app pool c.numbered.new.pool rows c.requires.rows c.in_ok-entry.ensures.pool (get_or rows 0 no_row) (first_listed app pool rows c.requires.rows c.requires.some no_row) c.args.mode c.requires.mode c.in_ok-row.row
    c.in_ok-row.ensures.row c.in_ok-row.ensures.start c.in_ok-entry.entry c.in_ok-entry.ensures.plain c.are_values.ensures c.in_ok-entry.ensures.numbers)
    c.is_in.ensures.out
