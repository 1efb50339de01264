use Rattle.bit_words.proofs.FurtherLaws.{AreWordsCopied}
use Rattle.bit_words.proofs.further.each_shared.Given as goal

abbrev pub invariant-loop-words : goal.invariant-loop-words
invariant-loop-words l = AreWordsCopied l.more l.words-index l.copy.items
