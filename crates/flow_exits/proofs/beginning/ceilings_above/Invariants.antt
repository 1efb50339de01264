-- the bits of the resources from this one on
use Rattle.std.proofs.Common.{◌≡◌, ◌+◌, ◌-◌, ◌≤◌, nat_lt, length}
use Rattle.osek_standard.specs.Levels.{interrupt_ceiling}
use Rattle.abstract_state.specs.Concrete.{bits_number}
use Rattle.flow_exits.proofs.beginning.ceilings_above.Given as goal

abbrev pub invariant-loop-resource : goal.invariant-loop-resource
invariant-loop-resource l =
    (l.resource ≤ length l.app.resources) × (l.bits ≡ bits_number (λ k. nat_lt l.priority (interrupt_ceiling l.app (l.resource + k))) (length l.app.resources - l.resource))

abbrev pub decreases-loop-resource : goal.decreases-loop-resource
decreases-loop-resource l = l.resource
