use Rattle.std.proofs.Common.{◌≡◌, ◌+◌, ◌<◌, ◌||◌, List, length, get_or, sym, ap, subst, ◌∙◌}
use Rattle.abstract_state.specs.{declared.value.PartValue.{PartValue}, ValueOrder.{same_part}, Tables.{is_member}}
use Rattle.flow_rules.specs.Allowed.{may_be_by}
use Rattle.flow_rules.proofs.{AllowedSets.{IsPartUpTo, part_put, part_passed}, allowing.allowed_set.Goals.{then-may_be+in_ok-insert, else-may_be}}
use Rattle.flow_rules.proofs.allowing.allowed_set.Goals as goal

pub loop-value-preserved : goal.loop-value-preserved
loop-value-preserved c =
    let set = c.args.set.now in
    let i = c.loop-value.value-index in
    let part = c.loop-value.part in
    let v = c.value-item.result in
    let items_are = c.as_slice-value-items.ensures in
    let lt : i < length set.members = subst (λ (xs : List PartValue). i < length xs) items_are c.loop-value-test.true in
    let is : get_or set.members i v ≡ v = ap (λ (xs : List PartValue). get_or xs i v) (sym items_are) ∙ sym c.value-item.is in
    elim c.if-may_be.branch [
      | then-may_be+in_ok-insert w ↦ subst (IsPartUpTo (may_be_by c.args.app.now c.args.point c.args.component) set (i + 1)) (sym w.part-is)
          (part_put (may_be_by c.args.app.now c.args.point c.args.component) set i part v lt is c.loop-value.invariant (sym c.may_be.ensures ∙ w.if-may_be.true) w.insert.new.self w.in_ok-insert.ensures.domain w.in_ok-insert.ensures.ascending
          (λ u. w.in_ok-insert.ensures.members u ∙ ap (λ (y : PartValue). is_member part u || same_part u y) w.copy.ensures))
      | else-may_be w ↦ subst (IsPartUpTo (may_be_by c.args.app.now c.args.point c.args.component) set (i + 1)) (sym w.part-is)
          (part_passed (may_be_by c.args.app.now c.args.point c.args.component) set i part v lt is c.loop-value.invariant (sym c.may_be.ensures ∙ w.if-may_be.false))
    ]
