-- what was copied and what is left is the whole
use Rattle.std.proofs.Common.{◌≡◌, ◌++◌, drop}
use Rattle.osek_values.proofs.line.Line.copy_from.Given as goal

abbrev pub invariant-loop-task : goal.invariant-loop-task
invariant-loop-task l = l.self-inside.places.items ++ drop l.task-index l.task-items ≡ l.task-items
