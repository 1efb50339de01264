use Rattle.std.proofs.Common.{◌+◌, ◌<◌, length, sym, subst, arith}
use Rattle.osek_values.specs.declared.numbers.BlockNo.{BlockNo}
use Rattle.abstract_state.specs.declared.value.PartValue.{PartValue}
use Rattle.flow_model.specs.Tests.{updated}
use Rattle.flow_model.specs.declared.change.Update.TheVariants as update
use Rattle.numbered_sets.specs.{Pools.{IsNumberOf}, Made.{AreMade}}
use Rattle.numbered_sets.proofs.MadeLaws.{made_on, made_more}
use Rattle.numbered_sets.proofs.seen_values.SeenValues.pass_at.Goals as goal

pub loop-number-init : goal.loop-number-init
loop-number-init c =
    let next = c.advance-number.ensures.number c.args.from (omega (arith, c.requires, c.len-count.ensures)) c.cursor-cursor.ensures in
    record {
      up = next.up;
      few = next.few;
      has = next.has;
      cursor = λ lt. c.advance-number.ensures.behind lt c.args.from c.cursor-cursor.ensures;
      made = made_on (updated (update.Block c.args.block)) c.args.self.now.values c.args.numbers.now c.args.made.now c.args.from c.advance-number.result next.up next.none;
    }

pub returns-in_default-clause-made : goal.returns-in_default-clause-made
returns-in_default-clause-made c =
    made_on (updated (update.Block c.args.block)) c.args.self.now.values c.args.numbers.now c.args.made.now c.args.from c.next.result c.next.ensures.up c.next.ensures.none

pub advance-number-requires-in-loop-number : goal.advance-number-requires-in-loop-number
advance-number-requires-in-loop-number c = (c.loop-number.invariant.cursor c.loop-number-test.true).word

pub loop-number-smaller : goal.loop-number-smaller
loop-number-smaller c =
    let next = c.advance-number-in-loop-number.ensures.number (c.loop-number.number + 1) (omega (arith, c.loop-number-test.true)) (c.loop-number.invariant.cursor c.loop-number-test.true) in
    omega (arith, c.loop-number-test.true, next.up)

pub loop-number-preserved : goal.loop-number-preserved
loop-number-preserved c =
    let becomes = updated (update.Block c.args.block) in
    let vs = c.args.self.now.values in
    let old = c.args.numbers.now in
    let n = c.loop-number.number in
    let its = subst (λ (b : BlockNo). (v : PartValue) → IsNumberOf vs v n → IsNumberOf vs (updated (update.Block b) v) c.in-Some-found_in.after) c.in-Some.ensures.block c.in-Some-found_in.ensures in
    let known : n < length vs = omega (arith, c.loop-number-test.true, c.len-count.ensures) in
    let here = c.loop-number.invariant.cursor c.loop-number-test.true in
    let next = c.advance-number-in-loop-number.ensures.number (n + 1) (omega (arith, c.loop-number-test.true)) here in
    record {
      up = omega (arith, c.loop-number.invariant.up, next.up);
      few = next.few;
      has = next.has;
      cursor = λ lt. c.advance-number-in-loop-number.ensures.behind lt (n + 1) here;
      made = λ begun.
          made_on becomes vs old c.put.new.self (n + 1) c.advance-number-in-loop-number.result next.up next.none
          (subst (AreMade becomes vs old (n + 1)) (sym c.in_ok-put.ensures.set)
          (made_more becomes vs old c.loop-number.made n c.in-Some-found_in.after known (c.loop-number.invariant.has c.loop-number-test.true) its (c.loop-number.invariant.made begun)));
    }
