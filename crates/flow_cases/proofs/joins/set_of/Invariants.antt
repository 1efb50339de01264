use Rattle.abstract_state.specs.ValueOrder.{IsAscending}
use Rattle.flow_cases.proofs.joins.set_of.Given as goal

abbrev pub invariant-loop-block : goal.invariant-loop-block
invariant-loop-block l = IsAscending l.set.members
