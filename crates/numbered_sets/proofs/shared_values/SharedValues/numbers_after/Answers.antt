use Rattle.std.proofs.Common.{sym, subst}
use Rattle.numbered_sets.specs.declared.made_sets.MadeSets.{MadeSets}
use Rattle.numbered_sets.specs.{Keeping.{AreMadeSets}, Pools.{Values}}
use Rattle.numbered_sets.proofs.shared_values.SharedValues.numbers_after.Goals as goal

pub moved_since-requires-clause-kept : goal.moved_since-requires-clause-kept
moved_since-requires-clause-kept c =
    subst (λ (kept : MadeSets). AreMadeSets c.self.inside.seen.value.values kept.sets) (sym c.replace-kept.ensures.value) c.self.invariant.1

pub invariant_of-self-2 : goal.invariant_of-self-2
invariant_of-self-2 c = (c.self-2.invariant.0, subst (λ (x : Values). AreMadeSets x.values c.moved_since.new.kept.sets) (sym c.self-2.view_is) c.in_ok-made.ensures.kept)
