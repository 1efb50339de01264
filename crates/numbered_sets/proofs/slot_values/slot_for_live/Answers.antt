use Rattle.std.proofs.Common.{Some, subst}
use Rattle.numbered_sets.specs.{declared.loads.Load.{Load}, Slots.{IsLoadNumber}}
use Rattle.numbered_sets.proofs.{TaskSlots.{live_slot}, LoadLaws.{more_by_one}}
use Rattle.numbered_sets.proofs.slot_values.slot_for_live.Goals as goal

pub returns-in-Some-clause-loads : goal.returns-in-Some-clause-loads
returns-in-Some-clause-loads c = more_by_one c.args.loads.now c.number.new.self c.of-carried.result c.in_ok-load.ensures.loads

pub returns-in-Some-clause-slot : goal.returns-in-Some-clause-slot
returns-in-Some-clause-slot c =
    live_slot c.args.first.0 c.args.count c.number.new.self c.args.live.now c.in_ok-load.load (Some c.in-Some.slot)
    (subst (λ (x : Load). IsLoadNumber c.number.new.self x c.in_ok-load.load) c.of-carried.ensures c.in_ok-load.ensures.number) c.slot_in_row.ensures.small c.in-Some.ensures.slot
