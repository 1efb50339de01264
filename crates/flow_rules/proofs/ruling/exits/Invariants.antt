use Rattle.std.proofs.Common.{◌≡◌, take}
use Rattle.point_exits.specs.Groups.{all_exits}
use Rattle.flow_rules.proofs.ruling.exits.Given as goal

abbrev pub invariant-loop-group : goal.invariant-loop-group
invariant-loop-group l = l.exits ≡ all_exits l.pool (take l.group-index l.groups)
