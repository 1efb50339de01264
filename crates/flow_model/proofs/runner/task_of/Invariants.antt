-- no task before has the block
use Rattle.std.proofs.Common.{ℕ, ◌<◌}
use Rattle.osek_standard.specs.Well.{IsOwn}
use Rattle.flow_model.proofs.runner.task_of.Given as goal

abbrev pub invariant-loop-task : goal.invariant-loop-task
invariant-loop-task l = (u : ℕ) → u < l.task → IsOwn l.app u l.block.0 → ⊥
