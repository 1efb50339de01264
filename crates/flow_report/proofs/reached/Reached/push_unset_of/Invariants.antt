use Rattle.std.proofs.Common.{◌^◌}
use Rattle.flow_report.specs.{FindingOrder.{rank_at}, Progress.{AreListed}, Reached.{table_of}}
use Rattle.flow_report.proofs.reached.Reached.push_unset_of.Given as goal

abbrev pub invariant-loop-bit : goal.invariant-loop-bit
invariant-loop-bit l = AreListed l.self.app.now (table_of l.self.pool.now l.self.rows.now) (rank_at 2 l.task.0 (2 ^ l.bit)) l.findings.items
