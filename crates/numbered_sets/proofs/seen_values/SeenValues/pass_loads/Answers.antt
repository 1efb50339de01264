use Rattle.std.proofs.Common.{◌+◌, ◌<◌, length, sym, subst, ◌∙◌, arith}
use Rattle.abstract_state.specs.declared.value.PartValue.{PartValue}
use Rattle.flow_model.specs.Tests.{updated}
use Rattle.numbered_sets.specs.{Pools.{Values, IsNumberOf}, Made.{AreMade}}
use Rattle.numbered_sets.proofs.{MadeLaws.{made_on, made_more}, UpdatedSlots.{found_updated}}
use Rattle.numbered_sets.proofs.seen_values.SeenValues.pass_loads.Goals as goal

pub returns-then-not-changes_load-clause-made : goal.returns-then-not-changes_load-clause-made
returns-then-not-changes_load-clause-made c =
    made_on (updated c.args.update.now) c.args.self.now.values c.args.numbers.now c.args.made.now c.args.from c.next.result c.next.ensures.up c.next.ensures.none

pub returns-in_default-clause-made : goal.returns-in_default-clause-made
returns-in_default-clause-made c =
    made_on (updated c.args.update.now) c.args.self.now.values c.args.numbers.now c.args.made.now c.args.from c.next-in_default.result c.next-in_default.ensures.up c.next-in_default.ensures.none

pub returns-in_default-numbers_after-clause-made : goal.returns-in_default-numbers_after-clause-made
returns-in_default-numbers_after-clause-made c =
    made_on (updated c.args.update.now) c.args.self.now.values c.args.numbers.now c.args.made.now c.args.from c.next-in_default-numbers_after.result c.next-in_default-numbers_after.ensures.up c.next-in_default-numbers_after.ensures.none

pub loop-number-init : goal.loop-number-init
loop-number-init c =
    let next = c.advance-number.ensures.number c.args.from (omega (arith, c.requires, c.len-count.ensures)) c.cursor-cursor.ensures in
    record {
      up = next.up;
      few = next.few;
      has = next.has;
      cursor = λ lt. c.advance-number.ensures.behind lt c.args.from c.cursor-cursor.ensures;
      made = made_on (updated c.args.update.now) c.args.self.now.values c.args.numbers.now c.args.made.now c.args.from c.advance-number.result next.up next.none;
    }

pub advance-number-requires-in-loop-number : goal.advance-number-requires-in-loop-number
advance-number-requires-in-loop-number c = (c.loop-number.invariant.cursor c.loop-number-test.true).word

pub loop-number-smaller : goal.loop-number-smaller
loop-number-smaller c =
    let next = c.advance-number-in-loop-number.ensures.number (c.loop-number.number + 1) (omega (arith, c.loop-number-test.true)) (c.loop-number.invariant.cursor c.loop-number-test.true) in
    omega (arith, c.loop-number-test.true, next.up)

pub loop-number-preserved : goal.loop-number-preserved
loop-number-preserved c =
    let becomes = updated c.args.update.now in
    let inside = c.self.inside in
    let vs = c.args.self.now.values in
    let old = c.args.numbers.now in
    let n = c.loop-number.number in
    let its : (v : PartValue) → IsNumberOf vs v n → IsNumberOf vs (becomes v) c.in-Some-found_with.after =
    subst (λ (x : Values). (v : PartValue) → IsNumberOf x.values v n → IsNumberOf x.values (becomes v) c.in-Some-found_with.after) c.self.view_is
    (found_updated inside.domain inside.loads inside.slots c.in-Some-numbers_after.loads.now c.args.update.now c.in-Some.standing n c.in-Some-found_with.after c.self.invariant c.are_distinct.ensures (sym c.changes_load.ensures ∙ c.if-not-changes_load.false) c.in-Some.ensures c.in-Some-numbers_after.ensures c.in-Some-found_with.ensures) in
    let known : n < length vs = omega (arith, c.loop-number-test.true, c.len-count.ensures) in
    let here = c.loop-number.invariant.cursor c.loop-number-test.true in
    let next = c.advance-number-in-loop-number.ensures.number (n + 1) (omega (arith, c.loop-number-test.true)) here in
    record {
      up = omega (arith, c.loop-number.invariant.up, next.up);
      few = next.few;
      has = next.has;
      cursor = λ lt. c.advance-number-in-loop-number.ensures.behind lt (n + 1) here;
      made = λ begun.
          made_on becomes vs old c.put.new.self (n + 1) c.advance-number-in-loop-number.result next.up next.none
          (subst (AreMade becomes vs old (n + 1)) (sym c.in_ok-put.ensures.set)
          (made_more becomes vs old c.loop-number.made n c.in-Some-found_with.after known (c.loop-number.invariant.has c.loop-number-test.true) its (c.loop-number.invariant.made begun)));
    }
