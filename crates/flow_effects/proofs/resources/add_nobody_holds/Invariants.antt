-- those of the tasks so far
use Rattle.std.proofs.Common.{◌≡◌, ◌++◌}
use Rattle.flow_effects.specs.Resources.{nobody_holds}
use Rattle.flow_effects.proofs.resources.add_nobody_holds.Given as goal

abbrev pub invariant-loop-task : goal.invariant-loop-task
invariant-loop-task l = l.conditions ≡ l.fn.conditions ++ nobody_holds l.resource l.task
