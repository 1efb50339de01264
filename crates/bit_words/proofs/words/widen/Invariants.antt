use Rattle.std.proofs.Common.{◌≡◌, ℕ, ◌≤◌, length, get_or}
use Rattle.bit_words.specs.Words.{bits_of_words}
use Rattle.bit_words.proofs.words.widen.Given as goal

abbrev pub invariant-loop-length : goal.invariant-loop-length
invariant-loop-length l =
    (bits_of_words l.words.items ≡ bits_of_words l.initial.words.items) × (length l.words.items ≡ l._length)
    × ((n : ℕ) → length l.initial.words.items ≤ n → l.count ≤ n → length l.words.items ≤ n)
    × ((i : ℕ) → get_or l.words.items i 0 ≡ get_or l.initial.words.items i 0)
