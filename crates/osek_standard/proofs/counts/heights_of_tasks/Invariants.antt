-- the heights so far
use Rattle.std.proofs.Common.{◌≡◌, ◌≤◌, ◌*◌, take}
use Rattle.std.specs.List.{sum_by}
use Rattle.osek_standard.specs.{Counts.{task_height}, declared.counts.TheConstants.{MAX_TASK_HEIGHT}}
use Rattle.osek_standard.proofs.counts.heights_of_tasks.Given as goal

abbrev pub invariant-loop-task : goal.invariant-loop-task
invariant-loop-task l = record {
  value : l.height ≡ sum_by (task_height l.stacks) (take l.task-index l.tasks);
  few : l.height ≤ l.task-index * MAX_TASK_HEIGHT;
}
