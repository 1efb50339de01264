use Rattle.std.proofs.Common.{◌≡◌, ◌*◌, ◌≤◌}
use Rattle.abstract_state.specs.Components.{event_start}
use Rattle.abstract_state.proofs.numbering.event_start.Given as goal

abbrev pub invariant-loop-below : goal.invariant-loop-below
invariant-loop-below l = record { value : l.start ≡ event_start l.app l.below; few : l.start ≤ 64 * l.below }
