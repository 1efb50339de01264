use Rattle.std.proofs.Common.{sym, subst}
use Rattle.numbered_sets.specs.{Judging.{AreJudgedTests}, Keeping.{AreMadeSets}, Pools.{Values}}
use Rattle.numbered_sets.proofs.{JudgedLaws.{judged_longer}, KeptLaws.{kept_longer}}
use Rattle.numbered_sets.proofs.shared_values.SharedValues.moved.Goals as goal

pub invariant_of-self-2 : goal.invariant_of-self-2
invariant_of-self-2 c =
    let was = c.in-Some-get_mut.own.now in
    let now = c.numbers_after.new.self in
    let tests = c.self-2.inside.judged.tests in
    let sets = c.self-2.inside.kept.sets in
    let own : AreJudgedTests was.values tests × AreMadeSets was.values sets =
    subst (λ (x : Values). AreJudgedTests x.values tests × AreMadeSets x.values sets) (sym c.in-Some-get_mut.ensures.value) c.self-2.invariant in
    (judged_longer was.values now.values tests c.numbers_after.ensures.grown own.0, kept_longer was.values now.values sets c.numbers_after.ensures.grown own.1)
