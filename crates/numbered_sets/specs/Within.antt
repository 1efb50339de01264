-- Sets of numbers within others.
use Rattle.std.specs.Prelude.{◌≡◌, ℕ, ◌<◌, false, List, length, IsTrue, bit_and, bit_xor}
use Rattle.numbered_sets.specs.{Numbers.{Numbers, has_number}, SetLists.{set_of}}

-- the bits of one number that the other lacks
abbrev pub bits_beside : ℕ → ℕ → ℕ
bits_beside m n = bit_xor m (bit_and m n)

-- Each number of a set is one of the other list's set at its place.
pub record AreWithin (sets other : List Numbers) : Type 0 where
  pub each : (c n : ℕ) → IsTrue (has_number (set_of sets c) n) → IsTrue (has_number (set_of other c) n)

-- Some number of a component's set isn't.
pub record HasNumberBeside (sets other : List Numbers) : Type 0 where
  pub component : ℕ
  pub number : ℕ
  pub known : component < length sets
  pub has : IsTrue (has_number (set_of sets component) number)
  pub lacks : has_number (set_of other component) number ≡ false
