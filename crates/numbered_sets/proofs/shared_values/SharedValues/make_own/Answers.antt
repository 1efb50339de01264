use Rattle.std.proofs.Common.{◌≡◌, ◌⊎◌, refl, sym, subst, ◌∙◌, inl, inr}
use Rattle.std.specs.Result.{IsOk, OnErr}
use Rattle.numbered_sets.specs.{Judging.{AreJudgedTests}, Keeping.{AreMadeSets}, Pools.{Values}}
use Rattle.numbered_sets.proofs.shared_values.SharedValues.make_own.Goals as goal

pub invariant_of-self : goal.invariant_of-self
invariant_of-self c =
    let left = c.make_mut.follows.lender-at-none.value in
    let was = c.self.inside.seen.value in
    let still : left ≡ was → AreJudgedTests left.values c.self.inside.judged.tests × AreMadeSets left.values c.self.inside.kept.sets = λ same. subst (λ (x : Values). AreJudgedTests x.values c.self.inside.judged.tests × AreMadeSets x.values c.self.inside.kept.sets) (sym same) c.self.invariant in
    let one : (left ≡ was) ⊎ (left ≡ was) = subst (λ r. OnErr r ((left ≡ was) ⊎ (left ≡ was))) c.in_err-_own.was c.make_mut.follows.holds-at-none in
    elim one [
      | inl same ↦ still same
      | inr same ↦ still same
    ]

pub invariant_of-self-2 : goal.invariant_of-self-2
invariant_of-self-2 c =
    let own = c.in_ok-_own._own.now in
    let still : own ≡ c.self.inside.seen.value → AreJudgedTests (c.make_mut.follows.lender own).value.values c.self.inside.judged.tests × AreMadeSets (c.make_mut.follows.lender own).value.values c.self.inside.kept.sets = λ same.
    subst (λ (x : Values). AreJudgedTests x.values c.self.inside.judged.tests × AreMadeSets x.values c.self.inside.kept.sets) (sym (c.make_mut.follows.holds own (subst IsOk (sym c.in_ok-_own.was) refl) ∙ same)) c.self.invariant in
    elim c.in_ok-_own.ensures.value [
      | inl same ↦ still same
      | inr same ↦ still same
    ]
