use Rattle.numbered_sets.specs.Pools.{values_at}
use Rattle.block_sets.specs.AtBlocks.{AreBlockSets}
use Rattle.block_sets.proofs.sets.BlockSets.renew.Given as goal

abbrev pub invariant-loop-number : goal.invariant-loop-number
invariant-loop-number l = AreBlockSets (values_at l.pool l.component) l.initial.self.sets → AreBlockSets (values_at l.pool l.component) l.self.sets
