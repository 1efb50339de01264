-- the bits of the resources from this one on
use Rattle.std.proofs.Common.{◌≡◌, ◌+◌, ◌-◌, ◌≤◌, length}
use Rattle.std.specs.Prelude.{not}
use Rattle.osek_standard.specs.Validity.{is_internal}
use Rattle.abstract_state.specs.Concrete.{bits_number}
use Rattle.abstract_state.proofs.domains.takable_resources.Given as goal

abbrev pub invariant-loop-resource : goal.invariant-loop-resource
invariant-loop-resource l =
    (l.resource ≤ length l.app.resources) × (l.bits ≡ bits_number (λ k. not (is_internal l.app.resources (l.resource + k))) (length l.app.resources - l.resource))

abbrev pub decreases-loop-resource : goal.decreases-loop-resource
decreases-loop-resource l = l.resource
