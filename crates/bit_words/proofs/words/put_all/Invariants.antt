use Rattle.bit_words.proofs.WordLaws.{AreEitherUpTo}
use Rattle.bit_words.proofs.words.put_all.Given as goal

abbrev pub invariant-loop-place : goal.invariant-loop-place
invariant-loop-place l = AreEitherUpTo l.initial.words l.other l.place l.words
