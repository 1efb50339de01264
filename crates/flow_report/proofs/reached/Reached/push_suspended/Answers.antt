use Rattle.std.proofs.Common.{◌≡◌, ℕ, length, refl, subst, arith}
use Rattle.osek_values.specs.Numbers.{task_no}
use Rattle.flow_report.specs.{FindingOrder.{rank_at}, Progress.{AreListed}, Reached.{table_of}}
use Rattle.flow_report.specs.declared.finding.Finding.TheVariants as finding
use Rattle.flow_report.proofs.{Listing.{listed_number, listed_kind}, FlagFindings.{suspended_known, suspended_once}}
use Rattle.flow_report.proofs.reached.Reached.push_suspended.Goals as goal

pub loop-task-preserved : goal.loop-task-preserved
loop-task-preserved c =
    let self = c.args.self.now in
    let table = table_of self.pool.now self.rows.now in
    let i = c.loop-task.task in
    listed_number self.app.now table 0 i c.loop-task.findings.items c.push_if.new.findings.items (finding.Suspended (task_no i)) c.is_suspended-holds.result c.loop-task.invariant c.is_suspended-holds.ensures refl (suspended_once self.app.now table (task_no i) i refl) c.in_ok-push_if.ensures

pub returns : goal.returns
returns c =
    let self = c.args.self.now in
    let table = table_of self.pool.now self.rows.now in
    let all : c.loop-task.task ≡ length self.app.now.tasks = omega (arith, c.loop-task-test.false, c.len-task-end.ensures) in
    listed_kind self.app.now table 0 (length self.app.now.tasks) c.loop-task.findings.items (suspended_known self.app.now table)
    (subst (λ (k : ℕ). AreListed self.app.now table (rank_at 0 k 0) c.loop-task.findings.items) all c.loop-task.invariant)
