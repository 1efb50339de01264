use Rattle.std.proofs.{Common.{◌∙◌, ◌+◌, refl, sym, ap, subst, arith, List, length}, lemmas.Result.{err_from_is_err_and}}
use Rattle.osek_values.proofs.Refusals.{refuses_map}
use Rattle.std.specs.declared.option.Option.{Option}
use Rattle.abstract_state.specs.declared.table.{PlainEntry.{PlainEntry}, TableRow.{TableRow}}
use Rattle.numbered_sets.specs.{declared.table.NumberedRow.{NumberedRow}, PlainTables.{row_at, plain_rows, AreRowsOf}}
use Rattle.table_codec.specs.{Kept.{AreKept, entry_after, filled, filled_if, last_entry}, Rows.{IsReadRow}}
use Rattle.table_codec.proofs.{KeptNumbers.{last_pushed}, KeptSets.{domains_or, none_kept, sound_sets}}
use Rattle.table_codec.proofs.RowsSoFar.{AreRowsSoFar, absent_row, present_row, bad_row, all_rows, sound_entry, place_there, places_end, point_there}
use Rattle.table_codec.proofs.reading.read_rows.Goals as goal
use Rattle.table_codec.proofs.reading.read_rows.Goals.{in-Some+in_ok-add_row, in_default}

pub returns-in_err-entry-clause-err : goal.returns-in_err-entry-clause-err
returns-in_err-entry-clause-err c =
    let p = err_from_is_err_and c.from_residual-in_err-entry.result c.from_residual-in_err-entry.ensures.1 in
    let app = c.args.app.now in
    let points = c.in_ok-points.points in
    let place = c.loop-place.place in
    let point = c.at-point.result.now in
    let all = c.in_ok-points.ensures in
    rw (p.1, p.2) (refuses_map c.in_err-entry.field-0.0 _ _
    (λ f bad.
    bad_row app c.args.reader.now place (plain_rows c.loop-place.pool c.loop-place.rows) c.loop-place.reader point (place_there app points place all (omega (arith, c.loop-place-test.true, c.len-place-end.ensures)))
    (point_there app points place all point c.at-point.ensures.item) c.loop-place.invariant.rows f bad)
    c.in_err-entry.ensures.err)

pub loop-place-init : goal.loop-place-init
loop-place-init c =
    let app = c.args.app.now in
    let pool = c.args.pool.now in
    let bytes = c.args.reader.now in
    let none = c.new-rows.ensures in
    record {
      known = subst (AreRowsOf pool) (sym none) (record { each = λ row m. absurd (omega (arith, m.1)) });
      domains = c.requires.domains;
      rows = subst (λ (rs : List NumberedRow). AreRowsSoFar app bytes 0 (plain_rows pool rs) bytes) (sym none) (record { each = tt; up = tt; before = tt; are = refl });
      many = c.in_ok-kept.ensures.many ∙ c.len.ensures ∙ ap length c.requires.components;
      kept = record { are = none_kept app (last_entry (plain_rows pool c.new-rows.result)) c.len.result c.in_ok-kept.kept c.in_ok-kept.ensures };
    }

pub point_entry-requires-clause-many : goal.point_entry-requires-clause-many
point_entry-requires-clause-many c = c.loop-place.invariant.many

pub point_entry-requires-clause-kept : goal.point_entry-requires-clause-kept
point_entry-requires-clause-kept c = record { entry = last_entry (plain_rows c.loop-place.pool c.loop-place.rows); are = c.loop-place.invariant.kept.are }

pub add_row-requires-clause-domains : goal.add_row-requires-clause-domains
add_row-requires-clause-domains c =
    let before = last_entry (plain_rows c.loop-place.pool c.loop-place.rows) in
    let read = subst (λ (e : Option PlainEntry). IsReadRow c.args.app.now c.at-point.result.now c.loop-place.reader c.point_entry.new.reader (filled_if before e)) c.in-Some.is (c.in_ok-entry.ensures.ok before c.loop-place.invariant.kept.are) in
    sym (domains_or before 0 c.in-Some.entry.sets) ∙ read.2.domains ∙ sym c.loop-place.invariant.domains

pub add_row-requires-clause-sound : goal.add_row-requires-clause-sound
add_row-requires-clause-sound c =
    let before = last_entry (plain_rows c.loop-place.pool c.loop-place.rows) in
    let read = subst (λ (e : Option PlainEntry). IsReadRow c.args.app.now c.at-point.result.now c.loop-place.reader c.point_entry.new.reader (filled_if before e)) c.in-Some.is (c.in_ok-entry.ensures.ok before c.loop-place.invariant.kept.are) in
    sound_sets before c.in-Some.entry (sound_entry c.args.app.now c.masks_are_few.ensures c.at-point.result.now (filled before c.in-Some.entry) read.2.domains read.2.good).sets

pub loop-place-preserved : goal.loop-place-preserved
loop-place-preserved c =
    let app = c.args.app.now in
    let points = c.in_ok-points.points in
    let place = c.loop-place.place in
    let point = c.at-point.result.now in
    let all = c.in_ok-points.ensures in
    let bytes = c.args.reader.now in
    let rows = plain_rows c.loop-place.pool c.loop-place.rows in
    let before = last_entry rows in
    let lt = place_there app points place all (omega (arith, c.loop-place-test.true, c.len-place-end.ensures)) in
    let at = point_there app points place all point c.at-point.ensures.item in
    let kept = c.in_ok-entry.ensures.kept before c.loop-place.invariant.kept.are in
    let many = c.in_ok-entry.ensures.many ∙ c.loop-place.invariant.many in
    elim c.match-branch-4.branch [
      | in-Some+in_ok-add_row w ↦
          (let entry = w.in-Some.entry in
          let read = subst (λ (e : Option PlainEntry). IsReadRow app point c.loop-place.reader c.point_entry.new.reader (filled_if before e)) w.in-Some.is (c.in_ok-entry.ensures.ok before c.loop-place.invariant.kept.are) in
          let last = subst (λ (e : Option PlainEntry). AreKept app (entry_after before e) c.point_entry.new.kept) w.in-Some.is kept in
          let present = present_row app bytes place rows c.loop-place.reader point lt at c.loop-place.invariant.rows c.masks_are_few.ensures (filled before entry) read.0 c.point_entry.new.reader read.1 read.2 in
          rw (w.pool-is, w.rows-is) (record {
            known = w.in_ok-add_row.ensures.rows;
            domains = w.in_ok-add_row.ensures.domains ∙ c.loop-place.invariant.domains;
            rows = subst (λ (rs : List TableRow). AreRowsSoFar app bytes (place + 1) rs c.point_entry.new.reader) (sym w.in_ok-add_row.ensures.plain) present;
            many = many;
            kept = record {
              are =
                  subst (λ (rs : List TableRow). AreKept app (last_entry rs) c.point_entry.new.kept) (sym w.in_ok-add_row.ensures.plain)
                  (subst (λ (e : PlainEntry). AreKept app e c.point_entry.new.kept) (sym (last_pushed rows (row_at point (filled before entry)))) last);
            };
          }))
      | in_default w ↦
          (let read = subst (λ (e : Option PlainEntry). IsReadRow app point c.loop-place.reader c.point_entry.new.reader (filled_if before e)) w.in_default.is (c.in_ok-entry.ensures.ok before c.loop-place.invariant.kept.are) in
          let last = subst (λ (e : Option PlainEntry). AreKept app (entry_after before e) c.point_entry.new.kept) w.in_default.is kept in
          rw (w.pool-is, w.rows-is) (record {
            known = c.loop-place.invariant.known;
            domains = c.loop-place.invariant.domains;
            rows = absent_row app bytes place rows c.loop-place.reader point lt at c.loop-place.invariant.rows c.point_entry.new.reader read;
            many = many;
            kept = record { are = last };
          }))
    ]

pub returns-clause-table : goal.returns-clause-table
returns-clause-table c =
    all_rows c.args.app.now c.args.reader.now c.loop-place.place (plain_rows c.loop-place.pool c.loop-place.rows) c.loop-place.reader
    (places_end c.args.app.now c.in_ok-points.points c.loop-place.place c.in_ok-points.ensures (omega (arith, c.loop-place-test.false, c.len-place-end.ensures))) c.loop-place.invariant.rows
