use Rattle.abstract_state.specs.Tables.{sets_of}
use Rattle.numbered_sets.specs.{Pools.{IsLonger}, PlainTables.{plain_table}}
use Rattle.flow_check.specs.Verdicts.{StartsIn}
use Rattle.flow_check.proofs.starting.first_start_out.Given as goal

abbrev pub invariant-loop-mode : goal.invariant-loop-mode
invariant-loop-mode l = record {
  longer : IsLonger l.initial.pool l.pool;
  starts : StartsIn l.app (sets_of (plain_table l.initial.pool l.rows)) l.mode;
}
