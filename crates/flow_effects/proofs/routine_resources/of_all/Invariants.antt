-- those of the tasks so far
use Rattle.std.proofs.Common.{◌≡◌, map}
use Rattle.std.specs.List.{range_with_len}
use Rattle.osek_values.specs.Numbers.{task_no}
use Rattle.flow_effects.specs.Conditions.{of_task}
use Rattle.flow_effects.proofs.routine_resources.of_all.Given as goal

abbrev pub invariant-loop-task : goal.invariant-loop-task
invariant-loop-task l = l.conditions ≡ map (λ u. of_task (task_no u) l.test) (range_with_len 0 l.task)
