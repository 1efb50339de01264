use Rattle.std.proofs.{Common.{◌≡◌, ◌<◌, ◌+◌, ◌∙◌, length, get_or, sym, subst, arith}, lemmas.List.{get_or_default}}
use Rattle.abstract_state.specs.declared.value.PartValue.{PartValue}
use Rattle.flow_model.specs.Tests.{passes}
use Rattle.numbered_sets.specs.{Numbers.{Numbers}, NumberedEntries.{numbers_at}}
use Rattle.numbered_sets.proofs.SiftLaws.{ArePassingBelow, none_passing, passing_on, passing_taken, passing_left}
use Rattle.numbered_sets.proofs.judged.JudgedTest.among.Goals.{then-passes+in_ok-put, else-passes}
use Rattle.numbered_sets.proofs.judged.JudgedTest.among.Goals as goal

pub loop-number-init : goal.loop-number-init
loop-number-init c =
    let values = c.args.seen.now.values in
    let test = c.args.self.now.test in
    let set = numbers_at c.args.entry.now c.args.component in
    let next = c.advance-number.ensures.number 0 (omega arith) c.cursor-cursor.ensures in
    let begun = subst (λ (x : Numbers). ArePassingBelow values test set x 0) (sym c.new-passing.ensures) (none_passing values test set c.domain.result) in
    record {
      few = next.few;
      has = next.has;
      cursor = λ lt. c.advance-number.ensures.behind lt 0 c.cursor-cursor.ensures;
      passing = passing_on values test set c.new-passing.result 0 c.advance-number.result (omega arith) next.none begun;
    }

pub loop-number-smaller : goal.loop-number-smaller
loop-number-smaller c =
    let next = c.advance-number-in-loop-number.ensures.number (c.loop-number.number + 1) (omega (arith, c.loop-number-test.true)) (c.loop-number.invariant.cursor c.loop-number-test.true) in
    omega (arith, c.loop-number-test.true, next.up)

pub loop-number-preserved : goal.loop-number-preserved
loop-number-preserved c =
    let values = c.args.seen.now.values in
    let test = c.args.self.now.test in
    let set = numbers_at c.args.entry.now c.args.component in
    let number = c.loop-number.number in
    let there = c.loop-number.invariant.has c.loop-number-test.true in
    let here = c.loop-number.invariant.cursor c.loop-number-test.true in
    let next = c.advance-number-in-loop-number.ensures.number (number + 1) (omega (arith, c.loop-number-test.true)) here in
    let its : (d : PartValue) → number < length values → c.in_ok-passes.passes ≡ passes test (get_or values number d) = λ d known.
    c.in_ok-passes.ensures (get_or values number d) (record { known = known; is = λ e. get_or_default values number e d known }) in
    let more : ArePassingBelow values test set c.if-passes.passing (number + 1) = elim c.if-passes.branch [
      | then-passes+in_ok-put w ↦
          subst (λ (x : Numbers). ArePassingBelow values test set x (number + 1)) (sym (w.passing-is ∙ w.in_ok-put.ensures.set))
          (passing_taken values test set c.loop-number.passing number there c.loop-number.invariant.passing (λ d known. sym (its d known) ∙ w.if-passes.true))
      | else-passes w ↦
          subst (λ (x : Numbers). ArePassingBelow values test set x (number + 1)) (sym w.passing-is)
          (passing_left values test set c.loop-number.passing number there c.loop-number.invariant.passing (λ d known. sym (its d known) ∙ w.if-passes.false))
    ] in
    record {
      few = next.few;
      has = next.has;
      cursor = λ lt. c.advance-number-in-loop-number.ensures.behind lt (number + 1) here;
      passing = passing_on values test set c.if-passes.passing (number + 1) c.advance-number-in-loop-number.result next.up next.none more;
    }
