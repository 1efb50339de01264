-- what is written, and the lines that are left, are the whole
use Rattle.std.proofs.Common.{◌≡◌, ◌-◌}
use Rattle.osek_vectors.specs.{Writing.{onto, each_from}, OilTexts.{task_line}}
use Rattle.osek_vectors.proofs.oil.put_tasks.Given as goal

abbrev pub invariant-loop-task : goal.invariant-loop-task
invariant-loop-task l = onto l.writer (each_from l.task (l.tasks - l.task) task_line) ≡ onto l.initial.writer (each_from 0 l.tasks task_line)
