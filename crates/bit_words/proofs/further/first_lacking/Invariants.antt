use Rattle.bit_words.proofs.FurtherLaws.{AreSetFrom}
use Rattle.bit_words.proofs.further.first_lacking.Given as goal

abbrev pub invariant-loop-component : goal.invariant-loop-component
invariant-loop-component l = AreSetFrom l.more l.other l.from l.component
