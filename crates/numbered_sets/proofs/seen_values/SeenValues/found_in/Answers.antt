use Rattle.std.proofs.Common.{sym, subst, ◌+◌, ◌*◌}
use Rattle.std.specs.Prelude.{IfSome}
use Rattle.abstract_state.specs.declared.value.{PartValue.{PartValue}}
use Rattle.flow_model.specs.Tests.{updated}
use Rattle.flow_model.specs.declared.change.Update.TheVariants as update
use Rattle.numbered_sets.specs.{Pools.{Values, IsNumberOf}, Slots.{IsSlot, IsBlockColumn}}
use Rattle.numbered_sets.proofs.SlotLaws.{moved_number, moved_in_column}
use Rattle.numbered_sets.proofs.seen_values.SeenValues.found_in.Goals as goal

pub returns : goal.returns
returns c =
    let here = c.self.inside in
    let n = c.args.number in
    let becomes = updated (update.Block c.args.column.block) in
    let column = subst (λ (x : Values). IsBlockColumn x.domain c.args.column) (sym c.self.view_is) c.requires.column in
    let slot = c.at-slot.result in
    let place = c.in_ok-place.place in
    let moved = (c.args.column.row + place.row) * here.slots.width + c.args.column.column in
    let known = subst (IsSlot here.domain here.loads) (c.at-slot.ensures.slot.is 0) (c.self.invariant.known.each n 0 c.at-slot.ensures.slot.known) in
    let is = moved_in_column here.domain here.slots.width slot here.loads place c.args.column c.are_distinct.ensures known c.self.invariant.wide c.in_ok-place.ensures c.if-place-eq0.false column in
    subst (λ (x : Values). IfSome c.find_in.result (λ m. (v : PartValue) → IsNumberOf x.values v n → IsNumberOf x.values (becomes v) m)) c.self.view_is
    (moved_number here.domain here.loads here.slots.used becomes slot moved n c.find_in.result c.at-slot.ensures.slot is c.find_in.ensures.number)
