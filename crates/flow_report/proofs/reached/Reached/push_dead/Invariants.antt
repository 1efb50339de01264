use Rattle.flow_report.specs.{FindingOrder.{rank_at}, Progress.{AreListed}, Reached.{table_of}}
use Rattle.flow_report.proofs.reached.Reached.push_dead.Given as goal

abbrev pub invariant-loop-block : goal.invariant-loop-block
invariant-loop-block l = AreListed l.self.app.now (table_of l.self.pool.now l.self.rows.now) (rank_at 5 l.block 0) l.findings.items
