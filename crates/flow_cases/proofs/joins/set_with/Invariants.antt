use Rattle.abstract_state.specs.ValueOrder.{IsAscending}
use Rattle.flow_cases.proofs.joins.set_with.Given as goal

abbrev pub invariant-loop-value : goal.invariant-loop-value
invariant-loop-value l = IsAscending l.set.members
