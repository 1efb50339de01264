use Rattle.numbered_sets.proofs.NumberingLaws.{IsNumberedUpTo}
use Rattle.numbered_sets.proofs.numbered_form.numbered_set.Given as goal

abbrev pub invariant-loop-value : goal.invariant-loop-value
invariant-loop-value l = IsNumberedUpTo l.initial.pool l.component l.set.domain l.value-items l.value-index l.pool l.numbers
