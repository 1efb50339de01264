use Rattle.abstract_state.specs.Tables.{sets_of}
use Rattle.flow_report.specs.{FindingOrder.{rank_at}, Progress.{AreListed}}
use Rattle.flow_report.proofs.reporting.push_silent.Given as goal

abbrev pub invariant-loop-place : goal.invariant-loop-place
invariant-loop-place l = AreListed l.app (sets_of l.table) (rank_at 3 l.place 0) l.findings.items
