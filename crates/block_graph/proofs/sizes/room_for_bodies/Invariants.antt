use Rattle.std.proofs.Common.{◌≡◌, drop}
use Rattle.block_graph.specs.Rules.{block_lines}
use Rattle.block_graph.proofs.sizes.room_for_bodies.Given as goal

abbrev pub invariant-loop-body : goal.invariant-loop-body
invariant-loop-body l = drop l.left (block_lines (drop l.body-index l.bodies)) ≡ drop l.room (block_lines l.bodies)
