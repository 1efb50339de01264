use Rattle.flow_report.specs.{FindingOrder.{rank_at}, Progress.{AreListed}, Reached.{table_of}}
use Rattle.flow_report.proofs.reached.Reached.push_unset.Given as goal

abbrev pub invariant-loop-task : goal.invariant-loop-task
invariant-loop-task l = AreListed l.self.app.now (table_of l.self.pool.now l.self.rows.now) (rank_at 2 l.task 0) l.findings.items
