use Rattle.std.proofs.Common.{◌≡◌, false, true, refl, sym, subst, ◌∙◌, arith}
use Rattle.std.proofs.lemmas.List.{length-map}
use Rattle.abstract_state.specs.declared.table.TableRow.{TableRow}
use Rattle.numbered_sets.specs.{Views.{AreNumbersOf}, PlainTables.{plain_row, plain_rows, plain_table}}
use Rattle.flow_report.specs.Reached.{HasPassing}
use Rattle.flow_report.proofs.ShownRows.{row_among, row_at_place, of_none_more, state_shows, none_shows}
use Rattle.flow_report.proofs.PassingNumbers.{entry_count, rows_pool}
use Rattle.flow_report.proofs.reached.Reached.is_shown.Goals as goal

pub has_passing-requires-clause-numbers : goal.has_passing-requires-clause-numbers
has_passing-requires-clause-numbers c = c.requires.rows.known.each c.row-item.result (c.loop-row.row-index, c.loop-row-test.true, sym c.row-item.is)

pub has_passing-requires-clause-values : goal.has_passing-requires-clause-values
has_passing-requires-clause-values c =
    let self = c.args.self.now in
    let count = rows_pool self.app.now self.pool.now self.rows.now c.requires.rows (omega (arith, c.loop-row-test.true)) in
    omega (arith, count, c.requires.known)

pub has_passing-requires-clause-set : goal.has_passing-requires-clause-set
has_passing-requires-clause-set c =
    let self = c.args.self.now in
    let row = c.row-item.result in
    let count = rows_pool self.app.now self.pool.now self.rows.now c.requires.rows (omega (arith, c.loop-row-test.true)) in
    let known : AreNumbersOf self.pool.now row.entry = c.requires.rows.known.each row (c.loop-row.row-index, c.loop-row-test.true, sym c.row-item.is) in
    omega (arith, count, entry_count self.pool.now row.entry known, c.requires.known)

pub loop-row-init : goal.loop-row-init
loop-row-init c = λ i d lt p. omega (arith, lt)

pub returns-then-has_passing : goal.returns-then-has_passing
returns-then-has_passing c =
    let self = c.args.self.now in
    let pool = self.pool.now in
    let row = c.row-item.result in (
      λ e. state_shows self.app.now (plain_table pool self.rows.now) c.requires.rows.written c.args.component c.args.test.now c.requires.known (plain_row pool row)
          (row_among pool self.rows.now c.loop-row.row-index row c.loop-row-test.true c.row-item.is) (c.has_passing.ensures.0 c.if-has_passing.true),
      λ h. refl,
    )

pub loop-row-preserved : goal.loop-row-preserved
loop-row-preserved c =
    let self = c.args.self.now in
    let pool = self.pool.now in
    let row = c.row-item.result in
    of_none_more (λ (x : TableRow). HasPassing c.args.component c.args.test.now x.entry) (plain_rows pool self.rows.now) c.loop-row.row-index c.loop-row.invariant
    (λ d p. (let here : HasPassing c.args.component c.args.test.now (plain_row pool row).entry = subst (λ (x : TableRow). HasPassing c.args.component c.args.test.now x.entry) (row_at_place pool self.rows.now c.loop-row.row-index row c.loop-row-test.true c.row-item.is d) p in
    let wrong : false ≡ true = sym c.if-has_passing.false ∙ c.has_passing.ensures.1 here in
    absurd (cc)))

pub returns : goal.returns
returns c =
    let self = c.args.self.now in (
      λ e. absurd (cc),
      λ h. absurd (none_shows self.app.now (plain_table self.pool.now self.rows.now) c.requires.rows.written c.args.component c.args.test.now c.requires.known c.loop-row.row-index c.loop-row.invariant
          (omega (arith, c.loop-row-test.false, length-map self.rows.now (plain_row self.pool.now))) h),
    )
