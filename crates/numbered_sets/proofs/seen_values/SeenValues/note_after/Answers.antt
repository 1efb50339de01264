use Rattle.std.proofs.Common.{◌≡◌, refl, sym, subst, ◌∙◌}
use Rattle.flow_model.specs.Tests.{updated}
use Rattle.numbered_sets.specs.{Pools.{Values, IsNumberOf}, Slots.{IsSlot, value_in}}
use Rattle.numbered_sets.proofs.{MadeLaws.{one_value}, SlotLaws.{value_numbered}, UpdatedSlots.{load_noted}}
use Rattle.numbered_sets.proofs.seen_values.SeenValues.note_after.Goals as goal

pub note-requires : goal.note-requires
note-requires c =
    let here = c.self.inside in
    let u = c.args.update.now in
    let s = c.at.result in
    let t = c.at-2.result in
    let value = value_in here.domain here.loads s in
    let after = value_in here.domain here.loads t in
    let known = subst (IsSlot here.domain here.loads) (c.at.ensures.slot.is 0) (c.self.invariant.known.each c.args.number 0 c.at.ensures.slot.known) in
    let there = subst (IsSlot here.domain here.loads) (c.at-2.ensures.slot.is 0) (c.self.invariant.known.each c.args.after 0 c.at-2.ensures.slot.known) in
    let numbered : IsNumberOf c.args.self.now.values value c.args.number = subst (λ (x : Values). IsNumberOf x.values value c.args.number) c.self.view_is
    (value_numbered here.domain here.loads here.slots.used s c.args.number value c.at.ensures.slot refl) in
    let also : IsNumberOf c.args.self.now.values after c.args.after = subst (λ (x : Values). IsNumberOf x.values after c.args.after) c.self.view_is
    (value_numbered here.domain here.loads here.slots.used t c.args.after after c.at-2.ensures.slot refl) in
    let becomes : after ≡ updated u value = one_value c.args.self.now.values after (updated u value) c.args.after also (c.requires.made value numbered) in
    load_noted here.domain here.loads u s t c.in-Some.load c.in-Some-load_in.made known there c.in-Some.ensures c.in-Some-load_in.ensures (sym c.changes_load.ensures ∙ c.if-not-changes_load.false) becomes
