use Rattle.std.proofs.Common.{sym}
use Rattle.numbered_sets.proofs.SlotLaws.{slot_moved}
use Rattle.numbered_sets.proofs.slot_values.slot_at_block.Goals as goal

pub returns : goal.returns
returns c =
    slot_moved c.args.slot c.args.block c.args.loads.now c.slot_in_row.result c.are_distinct.ensures c.if-slot-eq0.false c.slot_in_row.ensures.small c.args.domain c.in_ok-first.first c.in_ok-first.count (sym c.in_ok-first.ensures)
    c.requires.known c.if-row-eq0.false c.slot_in_row.ensures.slot
