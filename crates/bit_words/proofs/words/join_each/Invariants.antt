use Rattle.bit_words.proofs.WordLaws.{AreJoinedUpTo}
use Rattle.bit_words.proofs.words.join_each.Given as goal

abbrev pub invariant-loop-place : goal.invariant-loop-place
invariant-loop-place l = AreJoinedUpTo l.initial.words l.other l.place l.words l.added
