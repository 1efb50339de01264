use Rattle.std.proofs.Common.{◌≡◌, take}
use Rattle.numbered_sets.specs.Counts.{row_numbers}
use Rattle.numbered_sets.proofs.counts.count_rows.Given as goal

abbrev pub invariant-loop-row : goal.invariant-loop-row
invariant-loop-row l = l.found ≡ row_numbers (take l.row-index l.rows)
