use Rattle.std.proofs.Common.{◌≡◌, drop}
use Rattle.std.specs.Prelude.{bit_or}
use Rattle.block_graph.specs.Blocks.{mask_bits}
use Rattle.block_graph.proofs.kinds.mask.Given as goal

abbrev pub invariant-loop-event : goal.invariant-loop-event
invariant-loop-event l = bit_or l.bits (mask_bits l.system (drop l.event-index l.events)) ≡ mask_bits l.system l.events
