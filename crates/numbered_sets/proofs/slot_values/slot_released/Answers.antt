use Rattle.std.proofs.Common.{◌≡◌, Some, sym, ap, subst, ◌∙◌}
use Rattle.std.specs.Prelude.{IfSome}
use Rattle.abstract_state.specs.declared.value.{Val.{Val}, Domain.{Domain}}
use Rattle.flow_model.specs.{Values.{released, released_to}, Tests.{updated}}
use Rattle.flow_model.specs.declared.change.Update.TheVariants as update
use Rattle.numbered_sets.specs.Slots.{value_in, val_in, IsSlotOf, IsTaskSlotOf}
use Rattle.numbered_sets.proofs.SlotLaws.{tasks_slot}
use Rattle.numbered_sets.proofs.slot_values.slot_released.Goals as goal

pub returns-in_ok-next-in-Task : goal.returns-in_ok-next-in-Task
returns-in_ok-next-in-Task c =
    let loads = c.args.loads.now in
    let first = c.in-Task.first in
    let count = c.in-Task.count in
    let slot = c.args.slot in
    let r = c.args.releases.now in
    let becomes : released r (val_in first.0 count loads slot) ≡ released_to c.in_ok-waiting-in-Task.waiting (Some c.in_ok-next-in-Task.next) =
    ap (released r) (c.in_ok-waiting-in-Task.ensures loads) ∙ ap (released_to c.in_ok-waiting-in-Task.waiting) (sym c.in_ok-next-in-Task.ensures) in
    subst (λ (d : Domain). IfSome c.slot_with_nothing.result (IsSlotOf d loads (updated (update.Release r) (value_in d loads slot)))) (sym c.in-Task.is)
    (tasks_slot first count _ _ _ loads (released r (val_in first.0 count loads slot)) c.slot_with_nothing.result (subst (λ (v : Val). IfSome c.slot_with_nothing.result (IsTaskSlotOf first.0 count loads v)) (sym becomes) c.slot_with_nothing.ensures))
