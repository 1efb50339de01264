use Rattle.std.proofs.Common.{◌≡◌, ◌∙◌, refl, sym, ap, subst}
use Rattle.flow_model.specs.Values.{block_of_part}
use Rattle.numbered_sets.specs.{Pools.{Values, IsNumberOf}, Slots.{IsSlot, slot_values, value_in}}
use Rattle.numbered_sets.proofs.SlotLaws.{value_numbered}
use Rattle.numbered_sets.proofs.seen_values.SeenValues.block.Goals as goal

pub returns : goal.returns
returns c = λ v number.
    let here = c.self.inside in
    let n = c.args.number in
    let slot = c.at.result in
    let value = value_in here.domain here.loads slot in
    let known = subst (IsSlot here.domain here.loads) (c.at.ensures.slot.is 0) (c.self.invariant.known.each n 0 c.at.ensures.slot.known) in
    let there : IsNumberOf (slot_values here.domain here.loads here.slots.used) v n = subst (λ (x : Values). IsNumberOf x.values v n) (sym c.self.view_is) number in
    let same : value ≡ v = sym ((value_numbered here.domain here.loads here.slots.used slot n value c.at.ensures.slot refl).is v) ∙ there.is v in
    c.block_in.ensures.block here.loads known ∙ ap block_of_part same
