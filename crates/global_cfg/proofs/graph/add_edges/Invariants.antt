use Rattle.std.proofs.Common.{◌≡◌, ◌++◌, map, take}
use Rattle.abstract_state.specs.Edges.{flow_edge}
use Rattle.global_cfg.proofs.graph.add_edges.Given as goal

abbrev pub invariant-loop-to : goal.invariant-loop-to
invariant-loop-to l = l.edges ≡ l.initial.edges ++ map (flow_edge l.from) (take l.to-index l.targets)
