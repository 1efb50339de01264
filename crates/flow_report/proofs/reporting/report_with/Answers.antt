use Rattle.std.proofs.Common.{List, sym, subst}
use Rattle.abstract_state.specs.Tables.{sets_of}
use Rattle.numbered_sets.specs.{PlainTables.{AreRowsFor}}
use Rattle.flow_report.specs.{declared.finding.Finding.{Finding}, FindingOrder.{rank_at}, Progress.{AreListed}, Reached.{table_of}}
use Rattle.flow_report.proofs.{Listing.{none_listed, all_listed}, TableRows.{written_rows, by_table, by_rows}}
use Rattle.flow_report.proofs.reporting.report_with.Goals as goal

pub push_suspended-requires-clause-rows : goal.push_suspended-requires-clause-rows
push_suspended-requires-clause-rows c =
    let n = c.in_ok-numbered.numbered in
    let are = subst (AreRowsFor c.args.table.now.rows n.pool) (sym c.as_slice.ensures) c.in_ok-numbered.ensures in
    written_rows c.args.app.now c.args.table.now n.pool c.as_slice.result.now are c.requires.written

pub push_suspended-requires-clause-listed : goal.push_suspended-requires-clause-listed
push_suspended-requires-clause-listed c =
    let n = c.in_ok-numbered.numbered in
    let table = table_of n.pool c.as_slice.result.now in
    subst (λ (fs : List Finding). AreListed c.args.app.now table (rank_at 0 0 0) fs) (sym c.new-findings.ensures.items) (none_listed c.args.app.now table)

pub push_unarmed-requires-clause-rows : goal.push_unarmed-requires-clause-rows
push_unarmed-requires-clause-rows c =
    let n = c.in_ok-numbered.numbered in
    let are = subst (AreRowsFor c.args.table.now.rows n.pool) (sym c.as_slice.ensures) c.in_ok-numbered.ensures in
    written_rows c.args.app.now c.args.table.now n.pool c.as_slice.result.now are c.requires.written

pub push_unset-requires-clause-rows : goal.push_unset-requires-clause-rows
push_unset-requires-clause-rows c =
    let n = c.in_ok-numbered.numbered in
    let are = subst (AreRowsFor c.args.table.now.rows n.pool) (sym c.as_slice.ensures) c.in_ok-numbered.ensures in
    written_rows c.args.app.now c.args.table.now n.pool c.as_slice.result.now are c.requires.written

pub push_silent-requires-clause-listed : goal.push_silent-requires-clause-listed
push_silent-requires-clause-listed c =
    let n = c.in_ok-numbered.numbered in
    let are = subst (AreRowsFor c.args.table.now.rows n.pool) (sym c.as_slice.ensures) c.in_ok-numbered.ensures in
    by_table c.args.app.now c.args.table.now n.pool c.as_slice.result.now are (rank_at 3 0 0) c.push_unset.new.findings.items c.in_ok-push_unset.ensures

pub push_free-requires-clause-rows : goal.push_free-requires-clause-rows
push_free-requires-clause-rows c =
    let n = c.in_ok-numbered.numbered in
    let are = subst (AreRowsFor c.args.table.now.rows n.pool) (sym c.as_slice.ensures) c.in_ok-numbered.ensures in
    written_rows c.args.app.now c.args.table.now n.pool c.as_slice.result.now are c.requires.written

pub push_free-requires-clause-listed : goal.push_free-requires-clause-listed
push_free-requires-clause-listed c =
    let n = c.in_ok-numbered.numbered in
    let are = subst (AreRowsFor c.args.table.now.rows n.pool) (sym c.as_slice.ensures) c.in_ok-numbered.ensures in
    by_rows c.args.app.now c.args.table.now n.pool c.as_slice.result.now are (rank_at 4 0 0) c.push_silent.new.findings.items c.in_ok-push_silent.ensures

pub push_dead-requires-clause-rows : goal.push_dead-requires-clause-rows
push_dead-requires-clause-rows c =
    let n = c.in_ok-numbered.numbered in
    let are = subst (AreRowsFor c.args.table.now.rows n.pool) (sym c.as_slice.ensures) c.in_ok-numbered.ensures in
    written_rows c.args.app.now c.args.table.now n.pool c.as_slice.result.now are c.requires.written

pub returns-clause-exact : goal.returns-clause-exact
returns-clause-exact c =
    let n = c.in_ok-numbered.numbered in
    let are = subst (AreRowsFor c.args.table.now.rows n.pool) (sym c.as_slice.ensures) c.in_ok-numbered.ensures in
    all_listed c.args.app.now (sets_of c.args.table.now) c.push_dead.new.findings.items
    (by_table c.args.app.now c.args.table.now n.pool c.as_slice.result.now are (rank_at 6 0 0) c.push_dead.new.findings.items c.in_ok-push_dead.ensures)

pub returns-clause-order : goal.returns-clause-order
returns-clause-order c = c.in_ok-push_dead.ensures.ascending
