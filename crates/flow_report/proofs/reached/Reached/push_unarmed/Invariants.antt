use Rattle.flow_report.specs.{FindingOrder.{rank_at}, Progress.{AreListed}, Reached.{table_of}}
use Rattle.flow_report.proofs.reached.Reached.push_unarmed.Given as goal

abbrev pub invariant-loop-alarm : goal.invariant-loop-alarm
invariant-loop-alarm l = AreListed l.self.app.now (table_of l.self.pool.now l.self.rows.now) (rank_at 1 l.alarm 0) l.findings.items
