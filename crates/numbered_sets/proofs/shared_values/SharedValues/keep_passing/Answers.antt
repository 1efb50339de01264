use Rattle.std.proofs.Common.{sym, subst}
use Rattle.numbered_sets.specs.{Judging.{AreJudgedTests}, Pools.{Values}}
use Rattle.numbered_sets.proofs.shared_values.SharedValues.keep_passing.Goals as goal

pub keep_passing-requires : goal.keep_passing-requires
keep_passing-requires c = record {
  judged = subst (λ (v : Values). AreJudgedTests v.values c.self.inside.judged.tests) (sym c.deref-in_default.ensures) c.self.invariant.0;
  given = c.requires;
}

pub invariant_of-self : goal.invariant_of-self
invariant_of-self c = (subst (λ (v : Values). AreJudgedTests v.values c.keep_passing.new.self.tests) c.deref-in_default.ensures c.keep_passing.ensures.judged, c.self.invariant.1)
