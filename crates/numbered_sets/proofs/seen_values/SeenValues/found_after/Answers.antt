use Rattle.std.proofs.Common.{◌≡◌, ◌+◌, ◌<◌, ℕ, length, sym, subst, arith}
use Rattle.flow_model.specs.Tests.{updated}
use Rattle.numbered_sets.specs.Made.{AreMade}
use Rattle.numbered_sets.proofs.MadeLaws.{none_made, made_more}
use Rattle.numbered_sets.proofs.seen_values.SeenValues.found_after.Goals as goal

pub loop-number-init : goal.loop-number-init
loop-number-init c = record {
  few = c.in_ok-number.ensures.few;
  has = c.in_ok-number.ensures.has;
  made = c.in_ok-number.ensures.made (none_made (updated c.args.update.now) c.args.self.now.values c.args.numbers.now c.in_ok-made.made c.in_ok-made.ensures);
}

pub loop-number-preserved : goal.loop-number-preserved
loop-number-preserved c =
    let becomes = updated c.args.update.now in
    let vs = c.args.self.now.values in
    let old = c.args.numbers.now in
    let n = c.loop-number.number in
    let known : n < length vs = omega (arith, c.loop-number-test.true, c.len-count.ensures) in
    record {
      few = c.in_ok-number-2.ensures.few;
      has = c.in_ok-number-2.ensures.has;
      made = c.in_ok-number-2.ensures.made
          (subst (AreMade becomes vs old (n + 1)) (sym c.in_ok-put.ensures.set)
          (made_more becomes vs old c.loop-number.made n c.in-Some.after known (c.loop-number.invariant.has known) c.in-Some.ensures c.loop-number.invariant.made));
    }

pub returns : goal.returns
returns c =
    let becomes = updated c.args.update.now in
    let vs = c.args.self.now.values in
    let old = c.args.numbers.now in
    let all : c.loop-number.number ≡ length vs = omega (arith, c.loop-number.invariant.few, c.loop-number-test.false, c.len-count.ensures) in
    subst (AreMade becomes vs old (length vs)) (sym c.trim.ensures) (subst (λ (k : ℕ). AreMade becomes vs old k c.loop-number.made) all c.loop-number.invariant.made)
