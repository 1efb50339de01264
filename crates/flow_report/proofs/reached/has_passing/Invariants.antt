use Rattle.std.proofs.Common.{◌-◌}
use Rattle.numbered_sets.specs.{NumberedEntries.{numbers_at}, Pools.{values_at}}
use Rattle.flow_report.proofs.PassingNumbers.{NonePasses}
use Rattle.flow_report.proofs.reached.has_passing.Given as goal

abbrev pub decreases-loop-number : goal.decreases-loop-number
decreases-loop-number l = l.end - l.number

abbrev pub invariant-loop-number : goal.invariant-loop-number
invariant-loop-number l = NonePasses (values_at l.pool l.component) l.test (numbers_at l.entry l.component) l.end l.number
