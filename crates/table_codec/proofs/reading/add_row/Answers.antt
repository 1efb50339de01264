use Rattle.std.proofs.{Common.{◌≡◌, ◌∙◌, length, sym, ap, subst, arith}, lemmas.List.{length-map}}
use Rattle.abstract_state.specs.declared.table.ValueSet.{ValueSet}
use Rattle.numbered_sets.specs.{Pools.{Values}, PlainTables.{plain_rows, AreRowsOf}}
use Rattle.numbered_sets.proofs.NumberingLaws.{as_long}
use Rattle.table_codec.specs.Kept.{filled, last_entry}
use Rattle.table_codec.proofs.GrownRows.{rows_pushed, plain_pushed}
use Rattle.table_codec.proofs.reading.add_row.Goals as goal

pub returns-clause-rows : goal.returns-clause-rows
returns-clause-rows c =
    subst (AreRowsOf c.numbered_behind.new.pool) (sym c.in_ok-push.ensures.ok)
    (rows_pushed c.args.pool.now c.numbered_behind.new.pool c.in_ok-entry.ensures.pool c.args.rows.now (record { point = c.args.point; entry = c.in_ok-entry.entry }) c.requires.rows c.in_ok-entry.ensures.numbers)

pub returns-clause-plain : goal.returns-clause-plain
returns-clause-plain c =
    ap (plain_rows c.numbered_behind.new.pool) c.in_ok-push.ensures.ok
    ∙ plain_pushed c.args.pool.now c.numbered_behind.new.pool c.in_ok-entry.ensures.pool c.args.rows.now (record { point = c.args.point; entry = c.in_ok-entry.entry }) c.requires.rows c.in_ok-entry.ensures.numbers (filled (last_entry (plain_rows c.args.pool.now c.args.rows.now)) c.args.entry.now)
    c.in_ok-entry.ensures.plain

pub row_words-requires : goal.row_words-requires
row_words-requires c =
    let before = c.args.pool.now in
    let many : length before ≡ length c.args.entry.now.sets = sym (length-map before (λ (x : Values). x.domain)) ∙ sym (ap length c.requires.domains) ∙ length-map c.args.entry.now.sets (λ (s : ValueSet). s.domain) in
    omega (arith, many, as_long before c.numbered_behind.new.pool c.in_ok-entry.ensures.pool, c.len-count.ensures)
