use Rattle.std.proofs.Common.{sym, subst}
use Rattle.std.specs.Prelude.{IfSome}
use Rattle.abstract_state.specs.declared.value.Val.{Val}
use Rattle.numbered_sets.specs.Slots.{IsTaskSlotOf}
use Rattle.numbered_sets.proofs.TaskSlots.{waiting_slot}
use Rattle.numbered_sets.proofs.slot_values.slot_of_val.Goals as goal

pub returns-in-Waiting-clause-slot : goal.returns-in-Waiting-clause-slot
returns-in-Waiting-clause-slot c =
    subst (λ (v : Val). IfSome c.slot_in_row.result (IsTaskSlotOf c.args.first.0 c.args.count c.args.loads.now v)) (sym c.in-Waiting.is)
    (waiting_slot c.args.first.0 c.args.count c.args.loads.now c.in-Waiting.block c.slot_in_row.result c.slot_in_row.ensures.small c.slot_in_row.ensures.slot)
