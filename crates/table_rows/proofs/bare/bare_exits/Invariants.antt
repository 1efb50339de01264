use Rattle.std.proofs.Common.{◌≡◌, List, map, take}
use Rattle.numbered_sets.specs.Pools.{Values}
use Rattle.point_exits.specs.Groups.{all_exits}
use Rattle.table_rows.specs.BareExits.{bare_exit}
use Rattle.table_rows.proofs.bare.bare_exits.Given as goal

abbrev pub invariant-loop-group : goal.invariant-loop-group
invariant-loop-group l = (pool : List Values) → l.exits ≡ map bare_exit (all_exits pool (take l.group-index l.groups))
