use Rattle.std.proofs.Common.{◌-◌, length}
use Rattle.table_rows.proofs.fold.place_from.Given as goal

abbrev pub decreases-loop-place : goal.decreases-loop-place
decreases-loop-place l = length l.known - l.place
