-- the points of the rows so far
use Rattle.std.proofs.Common.{◌≡◌, map, take}
use Rattle.flow_watch.proofs.Entries.{row_point}
use Rattle.flow_watch.proofs.watch.entries.Given as goal

abbrev pub invariant-loop-row : goal.invariant-loop-row
invariant-loop-row l = l.points ≡ take l.row-index (map row_point l.table.rows)
