use Rattle.bit_words.proofs.KeptWords.{AreKeptUpTo}
use Rattle.bit_words.proofs.words.keep.Given as goal

abbrev pub invariant-loop-place : goal.invariant-loop-place
invariant-loop-place l = AreKeptUpTo l.initial.words l.other l.place l.words
