use Rattle.std.proofs.Common.{◌≡◌, ◌++◌, take}
use Rattle.flow_rules.proofs.assembly.add_changes.Given as goal

abbrev pub invariant-loop-change : goal.invariant-loop-change
invariant-loop-change l = l.to ≡ l.initial.to ++ take l.change-index l.from
