use Rattle.std.proofs.Common.{ℕ, ◌<◌, ◌≤◌, get_or}
use Rattle.std.specs.Bool.{OnTrue}
use Rattle.bit_words.proofs.words.each_has_bit.Given as goal

abbrev pub invariant-loop-place : goal.invariant-loop-place
invariant-loop-place l = OnTrue l.all ((i : ℕ) → l.from ≤ i → i < l.place → 0 < get_or l.words i 0)
