use Rattle.abstract_state.specs.ValueOrder.{AreBefore}
use Rattle.abstract_state.proofs.table.ValueSet.search.Given as goal

abbrev pub invariant-loop-place : goal.invariant-loop-place
invariant-loop-place l = AreBefore l.self.members l.place l.value
