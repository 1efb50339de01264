use Rattle.std.proofs.Common.{sym, subst}
use Rattle.global_cfg.specs.Edges.{AreAscending}
use Rattle.flow_watch.proofs.watch.Watch.has_edge.Goals as goal

pub edge_place-requires : goal.edge_place-requires
edge_place-requires c = subst AreAscending (sym c.as_slice-edges.ensures) c.self.invariant.ascending
