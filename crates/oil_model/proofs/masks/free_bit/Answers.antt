use Rattle.std.proofs.Common.{◌≡◌, ◌-◌, ◌∙◌, sym, ap, arith}
use Rattle.oil_model.specs.Objects.{free_from}
use Rattle.oil_model.proofs.FreeBits.{free_here, free_next, free_none}
use Rattle.oil_model.proofs.masks.free_bit.Goals as goal

pub returns-then-used-k-eq0 : goal.returns-then-used-k-eq0
returns-then-used-k-eq0 c = sym (free_here _ _ c.loop-k-test.true c.if-used-k-eq0.true) ∙ c.loop-k.invariant

pub loop-k-preserved : goal.loop-k-preserved
loop-k-preserved c = sym (free_next _ _ c.loop-k-test.true c.if-used-k-eq0.false) ∙ c.loop-k.invariant

pub returns : goal.returns
returns c =
    let past = c.loop-k-test.false in
    let left : 64 - c.loop-k.k ≡ 0 = omega (arith, past) in
    sym (ap (free_from c.args.used c.loop-k.k) left ∙ free_none _ _) ∙ c.loop-k.invariant
