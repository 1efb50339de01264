use Rattle.std.proofs.Common.{◌≡◌, ◌≤◌}
use Rattle.osek_values.specs.Bits.{has_bit, passing_below}
use Rattle.abstract_state.proofs.numbering.own_below.Given as goal

abbrev pub invariant-loop-below : goal.invariant-loop-below
invariant-loop-below l = record { value : l.found ≡ passing_below (has_bit l.own.0) l.below; few : l.found ≤ l.below }
