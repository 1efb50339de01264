use Rattle.std.proofs.Common.{◌≡◌, ◌++◌, take}
use Rattle.flow_rules.proofs.assembly.add_conditions.Given as goal

abbrev pub invariant-loop-condition : goal.invariant-loop-condition
invariant-loop-condition l = l.to ≡ l.initial.to ++ take l.condition-index l.from
