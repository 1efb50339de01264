-- The bits of a number.
use Rattle.std.specs.{Prelude.{ℕ, zero, suc, ◌+◌, ◌%◌, ◌/◌, ◌^◌, ◌==◌, Bool, List, filter, if◌then◌else◌}, List.{range_with_len}}

-- bit k of a number
abbrev pub has_bit : ℕ → ℕ → Bool
has_bit n k = ((n / 2 ^ k) % 2) == 1

-- the bits of a word that are set
unfoldable pub bits_of : ℕ → List ℕ
bits_of n = filter (has_bit n) (range_with_len 0 64)

-- how many numbers below k pass a test
abbrev pub passing_below : (ℕ → Bool) → ℕ → ℕ
passing_below test zero = 0
passing_below test (suc k) = passing_below test k + (if test k then 1 else 0)
