use Rattle.std.proofs.Common.{◌≡◌, ◌∙◌, ◌-◌, ◌<◌, ℕ, length, get_or, sym, ap, arith}
use Rattle.abstract_state.specs.declared.table.PlainEntry.{PlainEntry}
use Rattle.numbered_sets.specs.{Views.{AreNumbersOf}}
use Rattle.numbered_sets.proofs.ViewLaws.{same_view, still_known}
use Rattle.table_codec.specs.Kept.{filled}
use Rattle.table_codec.proofs.{KeptNumbers.{filled_known, filled_plain, last_plain, last_none}, KeptSets.{filled_alone}}
use Rattle.table_codec.proofs.reading.numbered_behind.Goals as goal

pub returns-then-count-eq0-clause-plain : goal.returns-then-count-eq0-clause-plain
returns-then-count-eq0-clause-plain c =
    c.in_ok-new.ensures.plain
    ∙ sym (ap (λ (e : PlainEntry). filled e c.args.entry.now) (last_none c.args.pool.now c.args.rows.now (sym c.len-count.ensures ∙ c.if-count-eq0.true)) ∙ filled_alone c.args.entry.now)

pub returns-clause-numbers : goal.returns-clause-numbers
returns-clause-numbers c =
    let pool = c.args.pool.now in
    let after = c.numbered.new.pool in
    let rows = c.args.rows.now in
    let row = c.at.result.now in
    let longer = c.in_ok-new.ensures.pool in
    let last : c.len-count.result - 1 < length rows = omega (arith, c.if-count-eq0.false, c.len-count.ensures) in
    let known : AreNumbersOf pool row.entry = c.requires.rows.each row (c.len-count.result - 1, last, c.at.ensures.item row) in
    filled_known after row.entry c.args.entry.now c.in_ok-new.new c.fill.new.entry (still_known pool after row.entry longer known) c.in_ok-new.ensures.numbers (c.requires.domains ∙ sym longer.domains) c.in_ok-new.ensures.plain
    c.in_ok-fill.ensures

pub returns-clause-plain : goal.returns-clause-plain
returns-clause-plain c =
    let pool = c.args.pool.now in
    let after = c.numbered.new.pool in
    let rows = c.args.rows.now in
    let row = c.at.result.now in
    let longer = c.in_ok-new.ensures.pool in
    let last : c.len-count.result - 1 < length rows = omega (arith, c.if-count-eq0.false, c.len-count.ensures) in
    let known : AreNumbersOf pool row.entry = c.requires.rows.each row (c.len-count.result - 1, last, c.at.ensures.item row) in
    let at : get_or rows (length rows - 1) row ≡ row = ap (λ (n : ℕ). get_or rows (n - 1) row) (sym c.len-count.ensures) ∙ c.at.ensures.item row in
    filled_plain after row.entry c.args.entry.now c.in_ok-new.new c.fill.new.entry (still_known pool after row.entry longer known) c.in_ok-new.ensures.numbers (c.requires.domains ∙ sym longer.domains) c.in_ok-new.ensures.plain
    c.in_ok-fill.ensures
    ∙ ap (λ (e : PlainEntry). filled e c.args.entry.now) (same_view pool after row.entry longer known ∙ sym (last_plain pool rows row (omega (arith, last)) at))
