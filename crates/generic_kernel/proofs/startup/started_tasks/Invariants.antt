-- what was made, and what is to be made of the rest, is the whole
use Rattle.std.proofs.Common.{◌≡◌, ◌++◌, drop, map}
use Rattle.osek_standard.specs.Kernel.{started_task}
use Rattle.generic_kernel.proofs.startup.started_tasks.Given as goal

abbrev pub invariant-loop-task : goal.invariant-loop-task
invariant-loop-task l = l.tasks.items ++ map (started_task l.mode.0) (drop l.task-index l.task-items) ≡ map (started_task l.mode.0) l.app.tasks
