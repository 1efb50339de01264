-- the labels so far
use Rattle.std.proofs.Common.{◌≡◌, take, map}
use Rattle.trace_text.specs.Labels.{task_label}
use Rattle.trace_text.proofs.labels.task_labels.Given as goal

abbrev pub invariant-loop-task : goal.invariant-loop-task
invariant-loop-task l = l.labels.items ≡ map task_label (take l.task-index l.app.tasks)
