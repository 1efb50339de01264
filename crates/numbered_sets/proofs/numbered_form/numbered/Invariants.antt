use Rattle.numbered_sets.proofs.NumberingLaws.{AreNumberedUpTo}
use Rattle.numbered_sets.proofs.numbered_form.numbered.Given as goal

abbrev pub invariant-loop-component : goal.invariant-loop-component
invariant-loop-component l = AreNumberedUpTo l.initial.pool l.entry l.component l.pool l.numbered.sets
