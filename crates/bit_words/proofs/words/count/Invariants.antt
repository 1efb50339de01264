use Rattle.std.proofs.Common.{◌≡◌, ◌*◌}
use Rattle.bit_words.proofs.WordLaws.{word_has}
use Rattle.bit_words.proofs.words.count.Given as goal
use Rattle.osek_values.specs.Bits.{passing_below}

abbrev pub invariant-loop-place : goal.invariant-loop-place
invariant-loop-place l = l.found ≡ passing_below (word_has l.words) (64 * l.place)
