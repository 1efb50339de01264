use Rattle.std.proofs.{Common.{subst}, lemmas.Bool.{OnTrue_at}}
use Rattle.numbered_sets.specs.{declared.loads.Load.{Load}, Slots.{no_load, carrying, IsLoadNumber}}
use Rattle.numbered_sets.proofs.TaskSlots.{live_slot}
use Rattle.numbered_sets.proofs.slot_values.slot_with_nothing.Goals as goal

pub returns : goal.returns
returns c =
    let loads = c.args.loads.now in
    let k = c.args.load in
    let number : IsLoadNumber loads no_load k = subst (λ (x : Load). IsLoadNumber loads x k) (OnTrue_at c.if-not-is_none.false c.is_none.ensures) c.at.ensures in
    live_slot c.args.first.0 c.args.count loads (carrying c.args.block no_load) k c.slot_in_row.result number c.slot_in_row.ensures.small c.slot_in_row.ensures.slot
