-- field by field
use Rattle.block_graph.proofs.layout.block.Goals as goal

pub returns : goal.returns
returns c = cc
