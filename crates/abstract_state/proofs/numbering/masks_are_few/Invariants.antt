use Rattle.std.proofs.Common.{ℕ, ◌<◌, ◌^◌, get_or}
use Rattle.osek_standard.specs.declared.objects.Task.{Task}
use Rattle.abstract_state.proofs.numbering.masks_are_few.Given as goal

abbrev pub invariant-loop-task : goal.invariant-loop-task
invariant-loop-task l = (k : ℕ) (d : Task) → k < l.task → (get_or l.app.tasks k d).own.0 < 2 ^ 64
