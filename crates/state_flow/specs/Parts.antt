-- Rows by which a point is evaluated that was evaluated before.
use Rattle.std.specs.Prelude.{◌≡◌, ◌⊎◌, ℕ, ◌<◌, Option, Some, List, length, IsTrue, Contains}
use Rattle.osek_standard.specs.declared.point.Point.{Point}
use Rattle.numbered_sets.specs.{declared.{numbered_entry.NumberedEntry.{NumberedEntry}, table.NumberedRow.{NumberedRow}}, Numbers.{has_number}}
use Rattle.numbered_sets.specs.NumberedEntries.{numbers_at, number_domains, AreFilled, IsBelowNumbers}

-- A number is chosen of each component, and the entry has them.
pub record IsChoiceOf (entry : NumberedEntry) (choice : ℕ → ℕ) : Type 0 where
  pub each : (c : ℕ) → c < length entry.sets → IsTrue (has_number (numbers_at entry c) (choice c))

-- some row has the choice
pub record HasChoice (rows : List NumberedRow) (choice : ℕ → ℕ) : Type 0 where
  pub row : NumberedRow
  pub among : Contains rows row
  pub chosen : IsChoiceOf row.entry choice

-- an entry has it, where there is one
pub record HadChoice (before : Option NumberedEntry) (choice : ℕ → ℕ) : Type 0 where
  pub entry : NumberedEntry
  pub is : before ≡ Some entry
  pub chosen : IsChoiceOf entry choice

-- The row is of the point, and has some of the entry's numbers, of each component at least one.
pub record IsPartRow (point : Point) (entry : NumberedEntry) (row : NumberedRow) : Type 0 where
  pub at : row.point ≡ point
  pub domains : number_domains row.entry ≡ number_domains entry
  pub below : IsBelowNumbers row.entry entry
  pub filled : AreFilled row.entry

-- Rows of parts of an entry that together have each choice of its numbers that it hadn't before.
pub record AreRowsBeside (point : Point) (entry : NumberedEntry) (before : Option NumberedEntry) (rows : List NumberedRow) : Type 0 where
  pub parts : (row : NumberedRow) → Contains rows row → IsPartRow point entry row
  pub all : (choice : ℕ → ℕ) → IsChoiceOf entry choice → HadChoice before choice ⊎ HasChoice rows choice
