use Rattle.std.proofs.Common.{◌≡◌, ℕ, ◌≤◌, length}
use Rattle.bit_words.specs.Further.{further_at}
use Rattle.bit_words.proofs.further.make_room.Given as goal

abbrev pub invariant-loop-place : goal.invariant-loop-place
invariant-loop-place l =
    (length l.more ≡ l._place) × ((n : ℕ) → length l.initial.more ≤ n → l.count ≤ n → length l.more ≤ n) × ((k : ℕ) → further_at l.more k ≡ further_at l.initial.more k)
