use Rattle.std.proofs.Common.{◌≡◌, drop}
use Rattle.flow_model.specs.Tests.{value_after}
use Rattle.flow_model.proofs.change.value_after.Given as goal

abbrev pub invariant-loop-change : goal.invariant-loop-change
invariant-loop-change l = value_after l.changes l.component l.value ≡ value_after (drop l.change-index l.changes) l.component l.becoming
