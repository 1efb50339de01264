use Rattle.std.proofs.Common.{◌≡◌, ◌++◌, map, take}
use Rattle.point_exits.specs.declared.group.NumberEnd.{NumberEnd}
use Rattle.table_rows.specs.BareExits.{bare_end}
use Rattle.table_rows.proofs.bare.push_ends.Given as goal

abbrev pub invariant-loop-end : goal.invariant-loop-end
invariant-loop-end l = l.exits ≡ l.fn.exits ++ map (λ (x : NumberEnd). bare_end l.group x.target) (take l.end-index l.ends)
