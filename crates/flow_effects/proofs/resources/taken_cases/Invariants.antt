-- those of the tasks so far
use Rattle.std.proofs.Common.{◌≡◌}
use Rattle.flow_effects.specs.Resources.{taken_cases}
use Rattle.flow_effects.proofs.resources.taken_cases.Given as goal

abbrev pub invariant-loop-other : goal.invariant-loop-other
invariant-loop-other l = l.cases ≡ taken_cases l.task l.next l.resource l.other
