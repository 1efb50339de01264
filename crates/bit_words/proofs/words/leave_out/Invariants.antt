use Rattle.bit_words.proofs.OtherWords.{AreLeftOutUpTo}
use Rattle.bit_words.proofs.words.leave_out.Given as goal

abbrev pub invariant-loop-place : goal.invariant-loop-place
invariant-loop-place l = AreLeftOutUpTo l.initial.words l.other l.place l.words
