use Rattle.std.proofs.Common.{◌≡◌, map, filter}
use Rattle.std.specs.List.{range_with_len}
use Rattle.osek_values.specs.{Numbers.{event_no}, Bits.{has_bit}}
use Rattle.abstract_state.proofs.numbering.own_events.Given as goal

abbrev pub invariant-loop-bit : goal.invariant-loop-bit
invariant-loop-bit l = l.events ≡ map event_no (filter (has_bit l.own.0) (range_with_len 0 l.bit))
