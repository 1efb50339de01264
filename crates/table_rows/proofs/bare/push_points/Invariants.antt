use Rattle.std.proofs.Common.{◌≡◌, ◌++◌, map, take}
use Rattle.table_rows.specs.BareExits.{bare_end}
use Rattle.table_rows.proofs.bare.push_points.Given as goal

abbrev pub invariant-loop-point : goal.invariant-loop-point
invariant-loop-point l = l.exits ≡ l.fn.exits ++ map (bare_end l.group) (take l.point-index l.points)
