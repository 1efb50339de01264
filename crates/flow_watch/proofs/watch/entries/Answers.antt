use Rattle.std.proofs.Common.{◌∷◌, [], ◌++◌, List, sym, ap, subst, ◌∙◌, arith}
use Rattle.osek_standard.specs.declared.point.Point.{Point}
use Rattle.numbered_sets.specs.PlainTables.{AreRowsFor}
use Rattle.flow_watch.proofs.Entries.{entry_more, all_entries}
use Rattle.flow_watch.proofs.watch.entries.Goals as goal

pub loop-row-preserved : goal.loop-row-preserved
loop-row-preserved c =
    let rows = c.args.table.now.rows in
    let pool = c.in_ok-numbered.numbered.pool in
    let are = subst (AreRowsFor rows pool) (sym c.as_slice-row-items.ensures) c.in_ok-numbered.ensures in
    c.in_ok-push.ensures.ok ∙ ap (λ (ps : List Point). ps ++ c.row-item.result.point ∷ []) c.loop-row.invariant
    ∙ entry_more rows pool c.as_slice-row-items.result.now are c.loop-row.row-index c.row-item.result c.loop-row-test.true c.row-item.is

pub returns : goal.returns
returns c =
    let rows = c.args.table.now.rows in
    let pool = c.in_ok-numbered.numbered.pool in
    let are = subst (AreRowsFor rows pool) (sym c.as_slice-row-items.ensures) c.in_ok-numbered.ensures in
    c.loop-row.invariant ∙ all_entries rows pool c.as_slice-row-items.result.now are c.loop-row.row-index (omega arith)
