-- Rows of numbers beside a pool that grows.
use Rattle.std.proofs.Common.{suc, List, ◌∷◌, arith}
use Rattle.numbered_sets.specs.{Pools.{Values}, declared.table.NumberedRow.{NumberedRow}, PlainTables.{AreRowsOf}}

pub rows_of_tail : (pool : List Values) (x : NumberedRow) (xs : List NumberedRow) → AreRowsOf pool (x ∷ xs) → AreRowsOf pool xs
rows_of_tail pool x xs known = record { each = λ row m. known.each row (suc m.0, omega (arith, m.1), m.2) }
