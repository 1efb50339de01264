use Rattle.std.proofs.Common.{◌≡◌, map, take}
use Rattle.block_graph.specs.Names.{plain}
use Rattle.block_graph.proofs.names.numbered.Given as goal

abbrev pub invariant-loop-object : goal.invariant-loop-object
invariant-loop-object g l = plain l.names.keys ≡ map g.T.Named.name (take l.object-index l.objects)
