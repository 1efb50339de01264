use Rattle.std.proofs.Common.{◌≡◌}
use Rattle.block_sets.proofs.sets.BlockSets.put.Given as goal

abbrev pub invariant-loop-place : goal.invariant-loop-place
invariant-loop-place l = l.self ≡ l.initial.self
