use Rattle.std.proofs.Common.{◌≡◌, map, take, drop}
use Rattle.oil_model.specs.{Lines.{sooner, least}, Rules.{repeated}}
use Rattle.block_graph.specs.Rules.{has_same_owner, line_of_body, repeated_code}
use Rattle.block_graph.proofs.owners.repeated_code.Given as goal

abbrev pub invariant-loop-i : goal.invariant-loop-i
invariant-loop-i l = sooner l.best (least (map line_of_body (repeated has_same_owner (take l.i l.bodies) (drop l.i l.bodies)))) ≡ least (repeated_code l.bodies)
