-- The row of a point, by number.
use Rattle.std.specs.Prelude.{◌≡◌, ℕ, List, Contains}
use Rattle.numbered_sets.specs.declared.table.NumberedRow.{NumberedRow}
use Rattle.table_rows.specs.Rows.{number_of}

-- it is the row of the point with this number
pub record IsRowWith (rows : List NumberedRow) (number : ℕ) (row : NumberedRow) : Type 0 where
  pub among : Contains rows row
  pub is : number_of row ≡ number

-- the point with this number has no row
abbrev pub HasNoRowWith : List NumberedRow → ℕ → Type 0
HasNoRowWith rows number = (row : NumberedRow) → Contains rows row → number_of row ≡ number → ⊥
