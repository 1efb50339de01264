use Rattle.std.proofs.Common.{◌≢◌, ℕ, ◌<◌, length, get_or, subst}
use Rattle.numbered_sets.specs.{declared.loads.Load.{Load}, Slots.{no_load, IsLoadNumber}}
use Rattle.numbered_sets.proofs.TaskSlots.{live_slot, no_load_slot}
use Rattle.numbered_sets.proofs.slot_values.slot_of_live.Goals as goal

pub returns-in-Some-clause-slot : goal.returns-in-Some-clause-slot
returns-in-Some-clause-slot c =
    live_slot c.args.first.0 c.args.count c.args.loads.now c.args.live.now c.in-Some.load c.slot_in_row.result
    (subst (λ (x : Load). IsLoadNumber c.args.loads.now x c.in-Some.load) c.of-carried.ensures c.in-Some.ensures.number) c.slot_in_row.ensures.small c.slot_in_row.ensures.slot

pub returns-in-None-clause-none : goal.returns-in-None-clause-none
returns-in-None-clause-none c =
    let loads = c.args.loads.now in
    no_load_slot c.args.first.0 c.args.count loads c.args.live.now (subst (λ (x : Load). (k : ℕ) → k < length loads → get_or loads k no_load ≢ x) c.of-carried.ensures c.in-None.ensures.none)
