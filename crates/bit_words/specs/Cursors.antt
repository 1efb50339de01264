-- Cursors among the numbers whose bits are set.
use Rattle.std.specs.Prelude.{◌≡◌, ℕ, ◌+◌, ◌%◌, ◌<◌, ◌≤◌, false, IsTrue}
use Rattle.osek_values.specs.Bits.{has_bit}
use Rattle.bit_words.specs.declared.bit_cursor.BitCursor.{BitCursor}

abbrev pub bit_cursor : ℕ → ℕ → BitCursor
bit_cursor base rest = record { base = base; rest = rest }

-- The numbers from this one on are to come. Of the cursor's word it has those, and no others.
pub record IsBefore (bits from : ℕ) (c : BitCursor) : Type 0 where
  pub word : c.base % 64 ≡ 0
  pub begun : c.base ≤ from
  pub near : from ≤ c.base + 64
  pub passed : (k : ℕ) → c.base + k < from → has_bit c.rest k ≡ false
  pub rest : (k : ℕ) → k < 64 → from ≤ c.base + k → has_bit bits (c.base + k) ≡ has_bit c.rest k

-- the first number from one on, if it is below a bound; else the bound
pub record IsNextNumber (bits from below n : ℕ) : Type 0 where
  pub up : from ≤ n
  pub few : n ≤ below
  pub has : n < below → IsTrue (has_bit bits n)
  pub none : (k : ℕ) → from ≤ k → k < n → has_bit bits k ≡ false

-- the first number from one on, and the cursor behind it
pub record IsStep (bits from n : ℕ) (c : BitCursor) : Type 0 where
  pub up : from ≤ n
  pub has : IsTrue (has_bit bits n)
  pub none : (k : ℕ) → from ≤ k → k < n → has_bit bits k ≡ false
  pub next : IsBefore bits (n + 1) c

-- The cursor is before the first word from a number on that has a bit.
pub record IsAtWord (bits from : ℕ) (c : BitCursor) : Type 0 where
  pub up : from ≤ c.base
  pub none : (k : ℕ) → from ≤ k → k < c.base → has_bit bits k ≡ false
  pub before : IsBefore bits c.base c
