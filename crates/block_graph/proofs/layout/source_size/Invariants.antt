use Rattle.std.proofs.Common.{◌≡◌, ◌+◌, drop}
use Rattle.block_graph.specs.Blocks.{source_size}
use Rattle.block_graph.proofs.layout.source_size.Given as goal

abbrev pub invariant-loop-body : goal.invariant-loop-body
invariant-loop-body l = l.count + source_size (drop l.body-index l.bodies) ≡ source_size l.bodies
