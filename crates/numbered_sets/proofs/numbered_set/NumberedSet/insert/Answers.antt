use Rattle.std.proofs.Common.{sym, ◌∙◌}
use Rattle.numbered_sets.proofs.NumberLattice.{had_number}
use Rattle.numbered_sets.proofs.numbered_set.NumberedSet.insert.Goals as goal

pub returns-then-has-clause-set : goal.returns-then-has-clause-set
returns-then-has-clause-set c = had_number c.args.self.now c.args.number (sym c.has.ensures ∙ c.if-has.true)
