use Rattle.numbered_sets.specs.Pools.{IsLonger}
use Rattle.state_flow.proofs.least_table.number_free.Given as goal

abbrev pub invariant-loop-block : goal.invariant-loop-block
invariant-loop-block l = IsLonger l.initial.pool l.pool
