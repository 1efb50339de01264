-- those of the bits so far
use Rattle.std.proofs.Common.{◌≡◌, ◌++◌, map, filter}
use Rattle.std.specs.List.{range_with_len}
use Rattle.osek_values.specs.Bits.{has_bit}
use Rattle.flow_effects.specs.Waiting.{goes_on_by}
use Rattle.flow_effects.proofs.waiting.add_goes_on.Given as goal

abbrev pub invariant-loop-bit : goal.invariant-loop-bit
invariant-loop-bit l = l.cases ≡ l.fn.cases ++ map (goes_on_by l.app l.task l.next) (filter (has_bit l.events.0) (range_with_len 0 l.bit))
