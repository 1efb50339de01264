use Rattle.std.proofs.Common.{sym}
use Rattle.block_graph.proofs.Openers.{different}
use Rattle.block_graph.proofs.locks.are_same.Goals as goal

pub returns-then-some-others : goal.returns-then-some-others
returns-then-some-others c = sym (different _ _ c.if-some-others.true)
