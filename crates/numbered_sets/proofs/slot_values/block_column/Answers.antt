use Rattle.std.proofs.Common.{sym, arith}
use Rattle.numbered_sets.proofs.SlotLaws.{column_there}
use Rattle.numbered_sets.proofs.slot_values.block_column.Goals as goal

pub returns-then-slot-width-clause-column : goal.returns-then-slot-width-clause-column
returns-then-slot-width-clause-column c =
    let at = c.in_ok-slot.ensures.slot in
    column_there c.args.domain c.in_ok-first.first c.in_ok-first.count c.in_ok-slot.slot _ (sym c.in_ok-first.ensures) (omega (arith, at.low, at.high)) c.slot_in_row.ensures.small at (omega (arith, c.if-slot-width.true))

pub returns-clause-column : goal.returns-clause-column
returns-clause-column c =
    let at = c.in_ok-slot.ensures.slot in
    column_there c.args.domain c.in_ok-first.first c.in_ok-first.count c.in_ok-slot.slot _ (sym c.in_ok-first.ensures) (omega (arith, at.low, at.high, at.is, c.if-slot-width.false)) c.slot_in_row.ensures.small at (omega arith)
