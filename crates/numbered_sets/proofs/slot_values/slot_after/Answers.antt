use Rattle.std.proofs.Common.{◌≡◌, ◌≢◌, ℕ, ◌+◌, ◌-◌, ◌*◌, get_or, sym, ap₂, subst, ◌∙◌}
use Rattle.std.specs.Prelude.{IfSome}
use Rattle.flow_model.specs.{declared.change.Update.{Update}, Tests.{updated}}
use Rattle.numbered_sets.specs.{Slots.{none, value_in, slot_width, IsSlotOf}, LoadUpdates.{offset_after, IsNumberAfter}}
use Rattle.numbered_sets.proofs.UpdatedSlots.{updated_slot}
use Rattle.numbered_sets.proofs.slot_values.slot_after.Goals as goal

pub returns-in-Block : goal.returns-in-Block
returns-in-Block c =
    let value = value_in c.args.domain c.args.loads.now c.args.slot in
    subst (λ (u : Update). IfSome c.slot_at_block.result (IsSlotOf c.args.domain c.args.loads.now (updated u value))) (sym c.in-Block.is) c.slot_at_block.ensures

pub returns : goal.returns
returns c =
    let d = c.args.domain in
    let loads = c.args.loads.now in
    let u = c.args.update.now in
    let p = c.in_ok-place.place in
    let x = c.in_ok-standing.standing in
    let m = c.at-load.result in
    let numbers = c.in_ok-numbers.numbers.now in
    let number : m ≡ get_or numbers (p.row - 1) none = c.at-load.ensures in
    let some : get_or numbers (p.row - 1) none ≢ none = λ e. c.if-load.false (number ∙ e) in
    let after : IsNumberAfter loads u (p.row - 1) m = subst (IsNumberAfter loads u (p.row - 1)) (sym number) (c.in_ok-numbers.ensures.each (p.row - 1) some) in
    let slot : 1 + (m + 1) * c.slot_width-width.result + c.offset_after-offset.result ≡ 1 + (m + 1) * slot_width d + offset_after x p =
    ap₂ (λ (w o : ℕ). 1 + (m + 1) * w + o) c.slot_width-width.ensures.is c.offset_after-offset.ensures in
    let changes = sym c.changes_load.ensures ∙ c.if-not-changes_load.false in
    updated_slot loads c.are_distinct.ensures u c.args.slot (1 + (m + 1) * c.slot_width-width.result + c.offset_after-offset.result) m p x c.if-place-eq0.false after d c.requires.known c.in_ok-place.ensures changes c.in_ok-standing.ensures slot
