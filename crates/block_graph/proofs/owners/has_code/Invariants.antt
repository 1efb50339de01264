use Rattle.std.proofs.Common.{◌≡◌, drop}
use Rattle.std.specs.List.{list_any}
use Rattle.block_graph.specs.Rules.{is_code_of}
use Rattle.block_graph.proofs.owners.has_code.Given as goal

abbrev pub invariant-loop-body : goal.invariant-loop-body
invariant-loop-body l = list_any (is_code_of l.kind l.name) (drop l.body-index l.bodies) ≡ list_any (is_code_of l.kind l.name) l.bodies
