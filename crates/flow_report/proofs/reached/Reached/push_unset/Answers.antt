use Rattle.std.proofs.Common.{◌≡◌, ℕ, length, subst, arith}
use Rattle.flow_report.specs.{FindingOrder.{rank_at}, Progress.{AreListed}, Reached.{table_of}}
use Rattle.flow_report.proofs.{Listing.{listed_kind}, FlagFindings.{unset_known}}
use Rattle.flow_report.proofs.reached.Reached.push_unset.Goals as goal

pub loop-task-preserved : goal.loop-task-preserved
loop-task-preserved c = c.in_ok-push_unset_of.ensures

pub returns : goal.returns
returns c =
    let self = c.args.self.now in
    let table = table_of self.pool.now self.rows.now in
    let all : c.loop-task.task ≡ length self.app.now.tasks = omega (arith, c.loop-task-test.false, c.len-task-end.ensures) in
    listed_kind self.app.now table 2 (length self.app.now.tasks) c.loop-task.findings.items (unset_known self.app.now table)
    (subst (λ (k : ℕ). AreListed self.app.now table (rank_at 2 k 0) c.loop-task.findings.items) all c.loop-task.invariant)
