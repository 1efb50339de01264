use Rattle.std.proofs.Common.{◌≡◌, map, take}
use Rattle.abstract_state.specs.declared.table.ValueSet.{ValueSet}
use Rattle.state_flow.proofs.least_table.domains.Given as goal

abbrev pub invariant-loop-set : goal.invariant-loop-set
invariant-loop-set l = l.all.items ≡ map (λ (s : ValueSet). s.domain) (take l.set-index l.set-items)
