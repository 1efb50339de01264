use Rattle.std.proofs.Common.{ℕ, ◌<◌, get_or}
use Rattle.osek_standard.specs.declared.objects.Task.{Task}
use Rattle.image_codec.specs.Fits.{FitsTask}
use Rattle.commands.proofs.ranges.read_tasks.Given as goal

abbrev pub invariant-loop-task : goal.invariant-loop-task
invariant-loop-task l = (k : ℕ) (d : Task) → k < l.task-index → FitsTask (get_or l.tasks k d)
