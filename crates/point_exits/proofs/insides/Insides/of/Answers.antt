use Rattle.std.proofs.Common.{◌≡◌, ◌+◌, ◌<◌, ℕ, ◌∙◌, length, sym, ap, subst, arith}
use Rattle.abstract_state.specs.declared.value.PartValue.{PartValue}
use Rattle.flow_model.specs.declared.change.Update.TheVariants as update
use Rattle.flow_model.specs.Tests.{updated}
use Rattle.numbered_sets.specs.{Numbers.{Numbers}, Pools.{IsNumberOf}, Made.{AreMade}}
use Rattle.numbered_sets.proofs.MadeLaws.{none_made, made_on, made_more}
use Rattle.point_exits.proofs.insides.Insides.of.Goals as goal

pub loop-number-init : goal.loop-number-init
loop-number-init c = record {
  domain = ap (λ (x : Numbers). x.domain) c.in_ok-made.ensures;
  few = c.next-number.ensures.few;
  has = c.next-number.ensures.has;
  made = λ vs h size. made_on (updated update.Inside) vs c.args.numbers.now c.in_ok-made.made 0 c.next-number.result (omega arith) c.next-number.ensures.none
      (none_made (updated update.Inside) vs c.args.numbers.now c.in_ok-made.made c.in_ok-made.ensures);
}

pub loop-number-preserved : goal.loop-number-preserved
loop-number-preserved c =
    let becomes = updated update.Inside in
    let old = c.args.numbers.now in
    let n = c.loop-number.number in
    let m = c.at.result.now in
    let next = c.next-number-in-loop-number in
    let inv = c.loop-number.invariant in
    let lt : n < length c.args.self.now.numbers = omega (arith, c.loop-number-test.true, c.len-count.ensures) in
    record {
      domain = ap (λ (x : Numbers). x.domain) c.in_ok-put.ensures.set ∙ inv.domain;
      few = next.ensures.few;
      has = next.ensures.has;
      made = λ vs h size.
          (let its : (v : PartValue) → IsNumberOf vs v n → IsNumberOf vs (becomes v) m = λ v is. subst (IsNumberOf vs (becomes v)) (c.at.ensures.item 0) (h.each n v lt is) in
          made_on becomes vs old c.put.new.self (n + 1) next.result next.ensures.up next.ensures.none
          (subst (AreMade becomes vs old (n + 1)) (sym c.in_ok-put.ensures.set)
          (made_more becomes vs old c.loop-number.made n m (omega (arith, lt, size)) (inv.has c.loop-number-test.true) its (inv.made vs h size))));
    }

pub returns-clause-domain : goal.returns-clause-domain
returns-clause-domain c = ap (λ (x : Numbers). x.domain) c.trim.ensures ∙ c.loop-number.invariant.domain

pub returns-clause-made : goal.returns-clause-made
returns-clause-made c =
    let inv = c.loop-number.invariant in
    λ vs h size.
    (let becomes = updated update.Inside in
    let all : c.loop-number.number ≡ length vs = omega (arith, inv.few, c.loop-number-test.false, c.len-count.ensures, size) in
    subst (AreMade becomes vs c.args.numbers.now (length vs)) (sym c.trim.ensures) (subst (λ (k : ℕ). AreMade becomes vs c.args.numbers.now k c.loop-number.made) all (inv.made vs h size)))
