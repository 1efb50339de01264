use Rattle.std.proofs.{Common.{◌+◌, ◌*◌, subst}, lemmas.Option.{IfSome_then}}
use Rattle.std.specs.Prelude.{IfSome}
use Rattle.flow_model.specs.{declared.change.Update.TheVariants.{Block}, Tests.{updated}}
use Rattle.numbered_sets.specs.{Pools.{Values, IsBeside}, Slots.{IsSlot}}
use Rattle.numbered_sets.proofs.SlotLaws.{moved_number, moved_before}
use Rattle.numbered_sets.proofs.seen_values.SeenValues.beside.Goals as goal

pub returns : goal.returns
returns c =
    let here = c.self.inside in
    let n = c.args.number in
    let slot = c.at-slot.result in
    let place = c.in_ok-place.place in
    let before = place.row * here.slots.width + place.offset in
    let known = subst (IsSlot here.domain here.loads) (c.at-slot.ensures.slot.is 0) (c.self.invariant.known.each n 0 c.at-slot.ensures.slot.known) in
    let moved = moved_before here.domain here.slots.width slot here.loads place c.are_distinct.ensures known c.self.invariant.wide c.in_ok-place.ensures c.if-place-eq0.false c.if-place-eq0-2.false in
    subst (λ (x : Values). IfSome c.find_in.result (IsBeside x.values n)) c.self.view_is
    (IfSome_then c.find_in.result
    (moved_number here.domain here.loads here.slots.used (updated (Block moved.0)) slot before n c.find_in.result c.at-slot.ensures.slot moved.1 c.find_in.ensures.number)
    (λ m is v number. (moved.0, is v number)))
