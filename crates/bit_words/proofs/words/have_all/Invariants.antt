use Rattle.std.proofs.Common.{◌≡◌, ℕ, ◌<◌, get_or}
use Rattle.std.specs.Prelude.{bit_or}
use Rattle.bit_words.proofs.words.have_all.Given as goal

abbrev pub invariant-loop-place : goal.invariant-loop-place
invariant-loop-place l = l.missing ≡ 0 → (i : ℕ) → i < l.place → get_or l.words i 0 ≡ bit_or (get_or l.words i 0) (get_or l.other i 0)
