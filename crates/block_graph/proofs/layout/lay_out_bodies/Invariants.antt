use Rattle.std.proofs.Common.{◌≡◌, ◌+◌, ◌++◌, drop}
use Rattle.block_graph.specs.Blocks.{source_blocks, source_size}
use Rattle.block_graph.proofs.layout.lay_out_bodies.Given as goal

abbrev pub invariant-loop-body : goal.invariant-loop-body
invariant-loop-body l = record {
  same : l.blocks.items ++ source_blocks l.system (drop l.body-index l.bodies) l.number ≡ l.initial.blocks.items ++ source_blocks l.system l.bodies 0;
  room : l.number + source_size (drop l.body-index l.bodies) ≡ source_size l.bodies;
}
