use Rattle.std.proofs.Common.{ℕ, ◌<◌}
use Rattle.osek_standard.specs.Well.{IsWaitingAt}
use Rattle.table_codec.proofs.shape.may_wait.Given as goal

abbrev pub invariant-loop-block : goal.invariant-loop-block
invariant-loop-block l = (b : ℕ) → b < l.block → IsWaitingAt l.app l.task.0 b → ⊥
