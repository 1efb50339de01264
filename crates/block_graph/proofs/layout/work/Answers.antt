-- the count as it stands
use Rattle.std.proofs.Common.{refl}
use Rattle.block_graph.proofs.layout.work.Goals as goal

pub returns : goal.returns
returns c = refl
