use Rattle.std.proofs.Common.{◌≡◌, ◌≤◌, ◌+◌, List, length, take, refl, sym, ap, subst, ◌∙◌, arith}
use Rattle.std.proofs.lemmas.{Bool.{OnTrue_at, OnFalse_at}, List.{nil_from_length, take_all}}
use Rattle.osek_standard.specs.declared.app.App.{App}
use Rattle.abstract_state.specs.declared.table.TableRow.{TableRow}
use Rattle.numbered_sets.specs.{PlainTables.{plain_row, AreRowsFor}, Pools.{Values, IsLonger}}
use Rattle.numbered_sets.proofs.{NumberingLaws.{longer_onward, longer_itself}, RowsByNumber.{as_many, row_known}}
use Rattle.point_exits.specs.{declared.numbering.Numbering.{Numbering}, Rows.{IsProperRow}}
use Rattle.table_rows.specs.{declared.bare.{BareExit.{BareExit}, PointExits.{PointExits}}, BareExits.{AreBareExitsOf}, Folds.{TakesIn}}
use Rattle.table_rows.proofs.{FoldLaws.{rows_from, proper_row, row_taken, known_exits, next_row}, TableRows.{pool_alike}}
use Rattle.table_rows.proofs.fold.fold_rows.Goals.{then-is_known+in_ok-add, else-is_known+in_ok-exits+in_ok-add-2}
use Rattle.table_rows.proofs.fold.fold_rows.Goals as goal

pub returns-then-len-eq0 : goal.returns-then-len-eq0
returns-then-len-eq0 g c =
    let rows = c.args.table.now.rows in
    let n = c.in_ok-numbered.numbered in
    let none : length rows ≡ 0 = omega (arith, as_many rows n.pool n.rows.now c.in_ok-numbered.ensures, c.if-len-eq0.true, c.len.ensures) in
    subst (λ (done : List TableRow). g.F.RowFold.is_of c.args.app.now done c.args.made.now) (sym (nil_from_length rows none)) c.requires.begun

pub new-requires : goal.new-requires
new-requires g c =
    let n = c.in_ok-numbered.numbered in
    pool_alike c.args.app.now n.pool n.rows.now (rows_from c.args.app.now c.args.table.now c.requires.written n.pool n.rows.now c.in_ok-numbered.ensures)
    (omega (arith, c.if-len-eq0.false, c.len.ensures))

pub loop-row-init : goal.loop-row-init
loop-row-init g c = record {
  rows = subst (λ (pool : List Values). AreRowsFor c.args.table.now.rows pool c.as_slice-row-items.result.now) (sym c.in_ok-numbering.ensures.pool)
      (subst (AreRowsFor c.args.table.now.rows c.in_ok-numbered.numbered.pool) (sym c.as_slice-row-items.ensures) c.in_ok-numbered.ensures);
  app = c.in_ok-numbering.ensures.app;
  longer = longer_itself c.in_ok-numbering.numbering.pool;
  made = c.requires.begun;
}

pub asks_for-requires-clause-point : goal.asks_for-requires-clause-point
asks_for-requires-clause-point g c =
    let l = c.loop-row.invariant in
    (proper_row c.args.app.now c.args.table.now c.requires.written c.in_ok-numbering.numbering.pool c.as_slice-row-items.result.now l.rows
    c.loop-row.numbering.pool l.longer c.loop-row.row-index c.row-item.result c.loop-row-test.true c.row-item.is).row.point

pub loop-row-preserved-then-not-asks_for : goal.loop-row-preserved-then-not-asks_for
loop-row-preserved-then-not-asks_for g c =
    let l = c.loop-row.invariant in
    let rows = c.args.table.now.rows in
    let i = c.loop-row.row-index in
    let row = plain_row c.loop-row.numbering.pool c.row-item.result in
    let taken =
    row_taken c.args.app.now c.args.table.now c.requires.written c.in_ok-numbering.numbering.pool c.as_slice-row-items.result.now l.rows
    c.loop-row.numbering.pool l.longer i c.row-item.result c.loop-row-test.true c.row-item.is in
    record {
      rows = l.rows;
      longer = l.longer;
      app = l.app;
      made =
          subst (λ (done : List TableRow). g.F.RowFold.is_of c.args.app.now done c.loop-row.made) taken
          (OnFalse_at c.if-not-asks_for.true c.asks_for.ensures (take i rows) row refl l.made);
    }

pub exits_of_row-requires-clause-numbers : goal.exits_of_row-requires-clause-numbers
exits_of_row-requires-clause-numbers g c =
    let l = c.loop-row.invariant in
    row_known c.args.table.now.rows c.in_ok-numbering.numbering.pool c.as_slice-row-items.result.now l.rows c.loop-row.numbering.pool l.longer
    c.loop-row.row-index c.row-item.result c.loop-row-test.true c.row-item.is

pub exits_of_row-requires-clause-proper : goal.exits_of_row-requires-clause-proper
exits_of_row-requires-clause-proper g c =
    let l = c.loop-row.invariant in
    subst (λ (own : App). IsProperRow own (plain_row c.loop-row.numbering.pool c.row-item.result)) (sym l.app)
    (proper_row c.args.app.now c.args.table.now c.requires.written c.in_ok-numbering.numbering.pool c.as_slice-row-items.result.now l.rows
    c.loop-row.numbering.pool l.longer c.loop-row.row-index c.row-item.result c.loop-row-test.true c.row-item.is)

pub add-requires-clause-point : goal.add-requires-clause-point
add-requires-clause-point g c =
    let l = c.loop-row.invariant in
    (proper_row c.args.app.now c.args.table.now c.requires.written c.in_ok-numbering.numbering.pool c.as_slice-row-items.result.now l.rows
    c.loop-row.numbering.pool l.longer c.loop-row.row-index c.row-item.result c.loop-row-test.true c.row-item.is).row.point

pub add-requires-else-is_known-clause-point : goal.add-requires-else-is_known-clause-point
add-requires-else-is_known-clause-point g c =
    let l = c.loop-row.invariant in
    (proper_row c.args.app.now c.args.table.now c.requires.written c.in_ok-numbering.numbering.pool c.as_slice-row-items.result.now l.rows
    c.loop-row.numbering.pool l.longer c.loop-row.row-index c.row-item.result c.loop-row-test.true c.row-item.is).row.point

pub loop-row-preserved : goal.loop-row-preserved
loop-row-preserved g c =
    let l = c.loop-row.invariant in
    let app = c.args.app.now in
    let table = c.args.table.now in
    let first = c.in_ok-numbering.numbering.pool in
    let numbered = c.as_slice-row-items.result.now in
    let pool = c.loop-row.numbering.pool in
    let i = c.loop-row.row-index in
    let row = c.row-item.result in
    let lt = c.loop-row-test.true in
    let its = plain_row pool row in
    let taken = row_taken app table c.requires.written first numbered l.rows pool l.longer i row lt c.row-item.is in
    elim c.if-is_known.branch [
      | then-is_known+in_ok-add w ↦
          (let x = w.index-known-place.result in
          let which = OnTrue_at w.if-is_known.true c.is_known.ensures in
          let are =
          known_exits app table c.requires.written first numbered l.rows pool l.longer i row lt c.row-item.is c.args.known.now c.requires.known
          c.place_from-place.result x which.0 w.index-known-place.is (ap (λ (y : PointExits). y.point) w.index-known-place.is ∙ which.1 x) in
          let next = next_row app table c.requires.written first numbered l.rows pool l.longer i row lt c.row-item.is x.exits are in
          let takes =
          subst (λ (xs : List BareExit). TakesIn app (g.F.RowFold.is_of app) row.point xs c.loop-row.made w.add.new.self)
          (w.as_slice.ensures ∙ ap (λ (y : PointExits). y.exits) (sym w.index-known-place.is)) w.in_ok-add.ensures in
          record {
            rows = l.rows;
            app = ap (λ (n : Numbering). n.app.now) w.numbering-is ∙ l.app;
            longer = subst (λ (n : Numbering). IsLonger first n.pool) (sym w.numbering-is) l.longer;
            made =
                subst (g.F.RowFold.is_of app (take (i + 1) table.rows)) (sym w.made-is)
                (subst (λ (done : List TableRow). g.F.RowFold.is_of app done w.add.new.self) taken (takes (take i table.rows) its refl next l.made));
          })
      | else-is_known+in_ok-exits+in_ok-add-2 w ↦
          (let exits = w.in_ok-exits.exits in
          let are = subst (λ (own : App). AreBareExitsOf own its exits) l.app w.in_ok-exits.ensures.exits in
          let next = next_row app table c.requires.written first numbered l.rows pool l.longer i row lt c.row-item.is exits are in
          let takes =
          subst (λ (xs : List BareExit). TakesIn app (g.F.RowFold.is_of app) row.point xs c.loop-row.made w.add-else-is_known.new.self)
          w.as_slice-else-is_known.ensures w.in_ok-add-2.ensures in
          let after = w.exits_of_row.new.numbering in
          record {
            rows = l.rows;
            app = ap (λ (n : Numbering). n.app.now) w.numbering-is ∙ w.exits_of_row.ensures.grown.app ∙ l.app;
            longer =
                subst (λ (n : Numbering). IsLonger first n.pool) (sym w.numbering-is)
                (longer_onward first pool after.pool l.longer w.exits_of_row.ensures.grown.pool);
            made =
                subst (g.F.RowFold.is_of app (take (i + 1) table.rows)) (sym w.made-is)
                (subst (λ (done : List TableRow). g.F.RowFold.is_of app done w.add-else-is_known.new.self) taken
                (takes (take i table.rows) its refl next l.made));
          })
    ]

pub returns : goal.returns
returns g c =
    let rows = c.args.table.now.rows in
    let past : length rows ≤ c.loop-row.row-index =
    omega (arith, c.loop-row-test.false, as_many rows c.in_ok-numbering.numbering.pool c.as_slice-row-items.result.now c.loop-row.invariant.rows) in
    subst (λ (done : List TableRow). g.F.RowFold.is_of c.args.app.now done c.loop-row.made) (take_all c.loop-row.row-index rows past) c.loop-row.invariant.made
