use Rattle.numbered_sets.proofs.PlainLaws.{AreFirstPlain}
use Rattle.numbered_sets.proofs.plain_form.plain.Given as goal

abbrev pub invariant-loop-component : goal.invariant-loop-component
invariant-loop-component l = AreFirstPlain l.pool l.entry l.component l.sets
