use Rattle.std.proofs.Common.{◌≡◌}
use Rattle.numbered_sets.specs.Pools.{IsLonger}
use Rattle.flow_cases.proofs.rules_at_points.outcomes.Given as goal

abbrev pub invariant-loop-rule : goal.invariant-loop-rule
invariant-loop-rule l = IsLonger l.initial.pool l.pool
