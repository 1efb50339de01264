use Rattle.std.proofs.Common.{◌+◌, ◌<◌, length, sym, subst, arith}
use Rattle.numbered_sets.specs.{Numbers.{other_numbers}, NumberedEntries.{numbers_at}}
use Rattle.state_flow.proofs.GrownParts.{AreRowsBelow, has_new, has_none, all_below, not_grown, grown}
use Rattle.state_flow.proofs.parts.grown_rows.Goals.{then-not-is_set_within+in_ok-part+in_ok-push, else-not-is_set_within}
use Rattle.state_flow.proofs.parts.grown_rows.Goals as goal

pub loop-component-preserved : goal.loop-component-preserved
loop-component-preserved c =
    let point = c.args.point in
    let entry = c.args.entry.now in
    let before = c.args.before.now in
    let k = c.loop-component.component in
    let rows = c.loop-component.rows.items in
    let left = (other_numbers (numbers_at entry k) (numbers_at before k)).bits in
    let known : k < length entry.sets = omega (arith, c.loop-component-test.true, c.len-component-end.ensures) in
    elim c.if-not-is_set_within.branch [
      | then-not-is_set_within+in_ok-part+in_ok-push w ↦
          subst (λ v. AreRowsBelow point entry before (k + 1) v.items) (sym w.rows-is)
          (subst (AreRowsBelow point entry before (k + 1)) (sym w.in_ok-push.ensures.items)
          (grown point entry before k known w.in_ok-part.part w.in_ok-part.ensures c.requires.filled rows (has_new left c.is_set_within.result c.is_set_within.ensures w.if-not-is_set_within.true) c.loop-component.invariant))
      | else-not-is_set_within w ↦
          subst (λ v. AreRowsBelow point entry before (k + 1) v.items) (sym w.rows-is)
          (not_grown point entry before k known rows (has_none left c.is_set_within.result c.is_set_within.ensures w.if-not-is_set_within.false) c.loop-component.invariant)
    ]

pub returns : goal.returns
returns c = all_below c.args.point c.args.entry.now c.args.before.now c.loop-component.component c.loop-component.rows.items (omega (arith, c.loop-component-test.false, c.len-component-end.ensures, c.requires.alike)) c.loop-component.invariant
