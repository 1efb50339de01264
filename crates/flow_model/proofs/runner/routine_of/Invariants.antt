-- no source before has the block
use Rattle.std.proofs.Common.{ℕ, ◌<◌}
use Rattle.osek_standard.specs.Well.{IsOfRoutine}
use Rattle.flow_model.proofs.runner.routine_of.Given as goal

abbrev pub invariant-loop-source : goal.invariant-loop-source
invariant-loop-source l = (k : ℕ) → k < l.source → IsOfRoutine l.app k l.block.0 → ⊥
