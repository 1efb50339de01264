use Rattle.std.proofs.Common.{◌≡◌, ◌++◌, map, take}
use Rattle.flow_rules.specs.Assembly.{rule_of}
use Rattle.flow_rules.proofs.assembly.add_rules.Given as goal

abbrev pub invariant-loop-outcome : goal.invariant-loop-outcome
invariant-loop-outcome l = l.rules ≡ l.initial.rules ++ map (rule_of l.app l.effect) (take l.outcome-index l.outcomes)
