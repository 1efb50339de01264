use Rattle.std.proofs.Common.{◌≡◌, length}
use Rattle.bit_words.specs.Words.{bits_of_words}
use Rattle.bit_words.proofs.words.trim.Given as goal

abbrev pub invariant-words : goal.invariant-words
invariant-words l = bits_of_words l.words.items ≡ bits_of_words l.initial.words.items

abbrev pub decreases-words : goal.decreases-words
decreases-words l = length l.words.items
