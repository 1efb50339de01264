use Rattle.std.proofs.Common.{◌≡◌, ◌+◌, ◌++◌, ◌∷◌, [], ℕ, List, sym, ap, subst, ◌∙◌, arith}
use Rattle.table_codec.specs.Kept.{AreNoneKept}
use Rattle.table_codec.proofs.KeptSets.{one_more_none}
use Rattle.table_codec.proofs.reading.none_kept.Goals as goal

pub loop-preserved : goal.loop-preserved
loop-preserved c =
    let more = c.in_ok-push.ensures.ok ∙ ap (λ (bytes : List ℕ). c.loop.kept ++ bytes ∷ []) c.none.ensures in
    subst (AreNoneKept (c.loop.counter + 1)) (sym more) (one_more_none c.loop.counter c.loop.kept c.loop.invariant)

pub returns : goal.returns
returns c =
    let all : c.loop.counter ≡ c.args.count = omega (arith, c.loop-test.false, c.loop.auto.counter-end) in
    subst (λ (n : ℕ). AreNoneKept n c.loop.kept) all c.loop.invariant
