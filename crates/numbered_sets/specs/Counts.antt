-- How many numbers rows have.
use Rattle.std.specs.Prelude.{ℕ, List, sum_by}
use Rattle.numbered_sets.specs.{NumberedEntries.{entry_numbers}, declared.table.NumberedRow.{NumberedRow}}

abbrev pub row_numbers : List NumberedRow → ℕ
row_numbers rows = sum_by (λ (row : NumberedRow). entry_numbers row.entry) rows
