use Rattle.std.proofs.Common.{◌≡◌, ◌+◌, drop}
use Rattle.block_graph.specs.{Apps.{extent}, Blocks.{source_size}}
use Rattle.block_graph.proofs.tables.extent.Given as goal

abbrev pub invariant-loop-body : goal.invariant-loop-body
invariant-loop-body l = record {
  same : extent l.kind l.name (drop l.body-index l.bodies) l.first ≡ extent l.kind l.name l.bodies 0;
  room : l.first + source_size (drop l.body-index l.bodies) ≡ source_size l.bodies;
}
