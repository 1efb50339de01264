use Rattle.std.proofs.Common.{ℕ, ◌+◌, ◌∙◌, sym, ap, drop}
use Rattle.std.specs.Prelude.{bit_or}
use Rattle.osek_values.specs.Numbers.{mask}
use Rattle.block_graph.specs.Blocks.{mask_bits}
use Rattle.block_graph.proofs.BlockMasks.{mask_here, mask_past}
use Rattle.block_graph.proofs.kinds.mask.Goals as goal

pub loop-event-preserved : goal.loop-event-preserved
loop-event-preserved c =
    ap (λ (n : ℕ). bit_or (bit_or c.loop-event.bits n) (mask_bits c.args.system.now (drop (c.loop-event.event-index + 1) c.args.events.now))) c.event_bits-bits.ensures
    ∙ sym (mask_here c.args.system.now c.args.events.now c.loop-event.event-index c.loop-event.bits c.event-item.result c.loop-event-test.true (sym c.event-item.is))
    ∙ c.loop-event.invariant

pub returns : goal.returns
returns c = ap mask (sym (mask_past c.args.system.now c.args.events.now c.loop-event.event-index c.loop-event.bits c.loop-event-test.false) ∙ c.loop-event.invariant)
