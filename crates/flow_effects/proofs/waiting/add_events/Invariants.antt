-- those of the bits so far
use Rattle.std.proofs.Common.{◌≡◌, ◌++◌, map, filter}
use Rattle.std.specs.{Prelude.{IfSome}, List.{range_with_len}}
use Rattle.osek_values.specs.Bits.{has_bit}
use Rattle.flow_effects.specs.Waiting.{of_event, IsBeforeEvent}
use Rattle.flow_effects.proofs.waiting.add_events.Given as goal

abbrev pub invariant-loop-bit : goal.invariant-loop-bit
invariant-loop-bit l = record {
  conditions : l.conditions ≡ l.fn.conditions ++ map (of_event l.app l.task l.set) (filter (has_bit l.events.0) (range_with_len 0 l.bit));
  last : IfSome l.last (IsBeforeEvent l.app l.task l.bit);
}
