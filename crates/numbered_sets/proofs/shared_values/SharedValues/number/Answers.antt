use Rattle.std.proofs.Common.{sym, subst, ◌∙◌, arith}
use Rattle.numbered_sets.specs.{Judging.{AreJudgedTests}, Keeping.{AreMadeSets}, Pools.{Values, value_seen, IsNumberOf, AreValues}}
use Rattle.numbered_sets.proofs.{JudgedLaws.{judged_longer}, KeptLaws.{kept_longer}, PoolLaws.{few_values, seen_already}, ViewLaws.{extended_with}}
use Rattle.numbered_sets.proofs.shared_values.SharedValues.number.Goals as goal

pub returns-in-Some-clause-values : goal.returns-in-Some-clause-values
returns-in-Some-clause-values c =
    let v = c.args.value.now in
    let n = c.in-Some.number in
    sym (seen_already c.args.self.now v n (subst (λ (x : Values). IsNumberOf x.values v n) (c.deref.ensures ∙ c.self.view_is) c.in-Some.ensures.number))

pub returns-in-Some-clause-below : goal.returns-in-Some-clause-below
returns-in-Some-clause-below c =
    let seen = c.args.self.now in
    let v = c.args.value.now in
    let n = c.in-Some.number in
    let known = (subst (λ (x : Values). IsNumberOf x.values v n) (c.deref.ensures ∙ c.self.view_is) c.in-Some.ensures.number).known in
    let few = few_values seen.domain seen.values (subst AreValues (c.deref-in-Some.ensures ∙ c.self.view_is) c.are_values.ensures) in
    omega (arith, few, known)

pub invariant_of-self-in_err-number : goal.invariant_of-self-in_err-number
invariant_of-self-in_err-number c =
    subst (λ (x : Values). AreJudgedTests x.values c.self-2.inside.judged.tests × AreMadeSets x.values c.self-2.inside.kept.sets) (sym (c.in_err-number.ensures.err ∙ c.in-Some-get_mut.ensures.value)) c.self-2.invariant

pub invariant_of-self-2 : goal.invariant_of-self-2
invariant_of-self-2 c =
    let tests = c.self-2.inside.judged.tests in
    let sets = c.self-2.inside.kept.sets in
    let was = c.in-Some-get_mut.own.now in
    let now = value_seen was c.args.value.now in
    let own : AreJudgedTests was.values tests × AreMadeSets was.values sets =
    subst (λ (x : Values). AreJudgedTests x.values tests × AreMadeSets x.values sets) (sym c.in-Some-get_mut.ensures.value) c.self-2.invariant in
    let grown = extended_with was.values c.args.value.now in
    subst (λ (x : Values). AreJudgedTests x.values tests × AreMadeSets x.values sets) (sym c.in_ok-number.ensures.values)
    (judged_longer was.values now.values tests grown own.0, kept_longer was.values now.values sets grown own.1)
