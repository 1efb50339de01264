use Rattle.std.proofs.Common.{◌≡◌, ℕ, ◌*◌, ◌<◌, ◌≤◌, false}
use Rattle.bit_words.specs.Words.{bits_of_words}
use Rattle.bit_words.proofs.words.next_word.Given as goal
use Rattle.osek_values.specs.Bits.{has_bit}

abbrev pub invariant-loop-place : goal.invariant-loop-place
invariant-loop-place l = (k : ℕ) → 64 * l.from ≤ k → k < 64 * l.place → has_bit (bits_of_words l.words) k ≡ false
