use Rattle.std.proofs.Common.{◌≢◌, ℕ, ◌<◌, length, get_or, sym, subst}
use Rattle.std.specs.Prelude.{IfSome}
use Rattle.abstract_state.specs.declared.value.SourceVal.{SourceVal}
use Rattle.numbered_sets.specs.{declared.loads.Load.{Load}, Slots.{no_load, source_in, IsLoadNumber, IsSourceSlot, IsSourceSlotOf}}
use Rattle.numbered_sets.proofs.SourceSlots.{out_slot, routine_slot, no_stack_slot}
use Rattle.numbered_sets.proofs.slot_values.slot_of_source.Goals as goal

pub returns-in-Out-clause-slot : goal.returns-in-Out-clause-slot
returns-in-Out-clause-slot c =
    subst (λ (v : SourceVal). IsSourceSlotOf c.args.first.0 c.args.count c.args.loads.now v 0) (sym c.in-Out.is) (out_slot c.args.first.0 c.args.count c.args.loads.now)

pub returns-in-Some-clause-slot : goal.returns-in-Some-clause-slot
returns-in-Some-clause-slot c =
    let loads = c.args.loads.now in
    subst (λ (v : SourceVal). IfSome c.slot_in_row.result (IsSourceSlotOf c.args.first.0 c.args.count loads v)) (sym c.in-In.is)
    (routine_slot c.args.first.0 c.args.count loads c.in-In.routine c.in-Some.load c.slot_in_row.result
    (subst (λ (x : Load). IsLoadNumber loads x c.in-Some.load) c.of_routine-carried.ensures c.in-Some.ensures.number) c.slot_in_row.ensures.small c.slot_in_row.ensures.slot)

pub returns-in-None-clause-none : goal.returns-in-None-clause-none
returns-in-None-clause-none c =
    let loads = c.args.loads.now in
    subst (λ (v : SourceVal). (s : ℕ) → IsSourceSlot c.args.first.0 c.args.count loads s → source_in c.args.first.0 c.args.count loads s ≢ v) (sym c.in-In.is)
    (no_stack_slot c.args.first.0 c.args.count loads c.in-In.routine (subst (λ (x : Load). (k : ℕ) → k < length loads → get_or loads k no_load ≢ x) c.of_routine-carried.ensures c.in-None.ensures.none))
