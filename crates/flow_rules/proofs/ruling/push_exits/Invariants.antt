use Rattle.std.proofs.Common.{◌≡◌, ◌++◌, map, take}
use Rattle.point_exits.specs.{declared.group.NumberEnd.{NumberEnd}, Groups.{exit_at, with_end}}
use Rattle.flow_rules.proofs.ruling.push_exits.Given as goal

abbrev pub invariant-loop-point : goal.invariant-loop-point
invariant-loop-point l = l.exits ≡ l.initial.exits ++ map (exit_at l.pool l.group l.group.entry) (take l.point-index l.point-items)

abbrev pub invariant-loop-end : goal.invariant-loop-end
invariant-loop-end l = l.exits ≡ l.initial.exits ++ map (λ (x : NumberEnd). exit_at l.pool l.group (with_end l.group.entry x) x.target) (take l.end-index l.end-items)
