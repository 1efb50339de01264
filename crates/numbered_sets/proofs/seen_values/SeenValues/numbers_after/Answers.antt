use Rattle.std.proofs.Common.{◌<◌, length, refl, sym, ap, subst, ◌∙◌, arith}
use Rattle.std.proofs.lemmas.List.{length-append}
use Rattle.abstract_state.specs.{declared.value.Domain.{Domain}, Domains.{IsWithin}}
use Rattle.flow_model.specs.Tests.{updated}
use Rattle.numbered_sets.specs.{Made.{AreMade}}
use Rattle.numbered_sets.proofs.{ViewLaws.{extended_by_none}, NumberingLaws.{extended_onward}, MadeLaws.{none_made, made_whole, number_was}}
use Rattle.numbered_sets.proofs.seen_values.SeenValues.numbers_after.Goals as goal

pub loop-number-init : goal.loop-number-init
loop-number-init c = record {
  domain = refl;
  grown = extended_by_none c.args.self.now.values;
  few = c.in_ok-number.ensures.few;
  has = c.in_ok-number.ensures.has;
  made = c.in_ok-number.ensures.made (none_made (updated c.args.update.now) c.args.self.now.values c.args.numbers.now c.in_ok-made.made c.in_ok-made.ensures);
}

pub put_after-requires-clause-known : goal.put_after-requires-clause-known
put_after-requires-clause-known c =
    let more = c.loop-number.invariant.grown in
    omega (arith, c.loop-number-test.true, c.len-count.ensures, ap length more.is, length-append c.args.self.now.values more.more)

pub put_after-requires-clause-within : goal.put_after-requires-clause-within
put_after-requires-clause-within c = λ v is.
    let vs = c.args.self.now.values in
    let ws = c.loop-number.self.values in
    let more = c.loop-number.invariant.grown in
    let first : c.loop-number.number < length vs = omega (arith, c.loop-number-test.true, c.len-count.ensures) in
    let known : c.loop-number.number < length ws = omega (arith, first, ap length more.is, length-append vs more.more) in
    subst (λ (d : Domain). IsWithin d (updated c.args.update.now v)) (sym c.loop-number.invariant.domain)
    (c.requires.within c.loop-number.number v (c.loop-number.invariant.has known) (number_was vs ws v c.loop-number.number more first is))

pub loop-number-preserved : goal.loop-number-preserved
loop-number-preserved c =
    let vs = c.args.self.now.values in
    let ws = c.loop-number.self.values in
    let us = c.put_after.new.self.values in
    let more = c.loop-number.invariant.grown in
    let n = c.loop-number.number in
    let first : n < length vs = omega (arith, c.loop-number-test.true, c.len-count.ensures) in
    let known : n < length ws = omega (arith, first, ap length more.is, length-append vs more.more) in
    record {
      domain = c.put_after.ensures.domain ∙ c.loop-number.invariant.domain;
      grown = extended_onward vs ws us more c.put_after.ensures.grown;
      few = c.in_ok-number-2.ensures.few;
      has = c.in_ok-number-2.ensures.has;
      made = c.in_ok-number-2.ensures.made
          (c.in_ok-put_after.ensures.made c.args.numbers.now (λ i has. (let lt = c.requires.known i has in omega (arith, lt, ap length more.is, length-append vs more.more))) (c.loop-number.invariant.has known) c.loop-number.invariant.made);
    }

pub returns-clause-made : goal.returns-clause-made
returns-clause-made c =
    let becomes = updated c.args.update.now in
    let vs = c.args.self.now.values in
    let old = c.args.numbers.now in
    subst (AreMade becomes c.loop-number.self.values old (length vs)) (sym c.trim.ensures)
    (made_whole becomes c.loop-number.self.values old c.loop-number.made (length vs) c.loop-number.number (omega (arith, c.loop-number-test.false, c.len-count.ensures)) c.requires.known c.loop-number.invariant.made)
