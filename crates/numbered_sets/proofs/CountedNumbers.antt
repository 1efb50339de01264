-- Numbers are counted, one after another.
use Rattle.std.proofs.Common.{◌≡◌, ℕ, ◌+◌, ◌<◌, List, [], ◌∷◌, length, get_or, take, sum_by, All, refl, ap, ◌∙◌, arith}
use Rattle.std.proofs.lemmas.List.{take_more, Sums.{sum_by-cons, sum_by_push}}
use Rattle.abstract_state.specs.{declared.table.TableRow.{TableRow}, Tables.{entry_values, value_count}}
use Rattle.numbered_sets.specs.{NumberedEntries.{entry_numbers}, Pools.{Values, AreValues}}
use Rattle.numbered_sets.proofs.ViewLaws.{same_count}
use Rattle.numbered_sets.specs.{declared.table.NumberedRow.{NumberedRow}, PlainTables.{plain_row, plain_rows, plain_table, AreRowsOf}, Counts.{row_numbers}}
use Rattle.numbered_sets.proofs.GrownPools.{rows_of_tail}

-- one element more, in a loop over a list
pub counted_more : {X : Type 0} (f : X → ℕ) (xs : List X) (k : ℕ) (x : X) → k < length xs → get_or xs k x ≡ x → sum_by f (take (k + 1) xs) ≡ sum_by f (take k xs) + f x
counted_more f xs k x lt is = ap (sum_by f) (take_more xs k x lt) ∙ sum_by_push f (take k xs) (get_or xs k x) ∙ ap (λ y. sum_by f (take k xs) + f y) is

-- a table has as many values as its rows have numbers
pub values_are_numbers : (pool : List Values) (rows : List NumberedRow) → All AreValues pool → AreRowsOf pool rows → value_count (plain_table pool rows) ≡ row_numbers rows
values_are_numbers pool [] all known = refl
values_are_numbers pool (x ∷ xs) all known =
    let rest = values_are_numbers pool xs all (rows_of_tail pool x xs known) in
    let first = same_count pool x.entry all (known.each x (0, omega arith, refl)) in
    omega (arith, rest, first, sum_by-cons (λ (row : TableRow). entry_values row.entry) (plain_row pool x) (plain_rows pool xs), sum_by-cons (λ (row : NumberedRow). entry_numbers row.entry) x xs)
