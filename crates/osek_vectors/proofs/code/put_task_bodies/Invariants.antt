-- what is written, and the bodies that are left, are the whole
use Rattle.std.proofs.Common.{◌≡◌, ◌-◌}
use Rattle.osek_vectors.specs.{Writing.{onto, each_from}, CodeTexts.{task_body}}
use Rattle.osek_vectors.proofs.code.put_task_bodies.Given as goal

abbrev pub invariant-loop-task : goal.invariant-loop-task
invariant-loop-task l = onto l.writer (each_from l.task (l.tasks - l.task) (task_body l.tasks)) ≡ onto l.initial.writer (each_from 0 l.tasks (task_body l.tasks))
