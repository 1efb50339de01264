use Rattle.table_codec.proofs.KeptNumbers.{AreFilledUpTo}
use Rattle.table_codec.proofs.reading.fill.Given as goal

abbrev pub invariant-loop-component : goal.invariant-loop-component
invariant-loop-component l = AreFilledUpTo l.before l.read l.initial.entry l.component l.entry
