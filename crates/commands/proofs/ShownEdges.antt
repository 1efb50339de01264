-- The edges that a least table dictates begin and end at points of the application.
use Rattle.std.proofs.Common.{ℕ, ◌<◌, length, get_or, sym, subst}
use Rattle.std.specs.Prelude.{All}
use Rattle.std.proofs.lemmas.List.Elements.{Contains-get_or}
use Rattle.osek_standard.specs.{declared.app.App.{App}, Points.{IsPoint}}
use Rattle.abstract_state.specs.{Edges.{Edge}, Tables.{sets_of}}
use Rattle.abstract_state.proofs.EdgeLaws.{edge_begins, edge_ends}
use Rattle.abstract_state.specs.declared.edge.FlowEdge.{FlowEdge}
use Rattle.commands.specs.{Showing.{IsDictated}, declared.showing.Dictated.{Dictated}}

module _ (app : App) (x : Dictated) (h : IsDictated app x) where
  edge_at : (k : ℕ) (d : FlowEdge) → k < length x.edges → Edge app (sets_of h.table) (get_or x.edges k d).from (get_or x.edges k d).to
  edge_at k d lt = (h.edges.exact (get_or x.edges k d).from (get_or x.edges k d).to).0 (Contains-get_or x.edges k d lt)

  pub begin_at_points : All (λ (e : FlowEdge). IsPoint x.image.app e.from) x.edges
  begin_at_points k d lt = let p = (get_or x.edges k d).from in
      subst (λ (a : App). IsPoint a p) (sym h.is) (h.least.written.proper.points p (edge_begins app (sets_of h.table) p (get_or x.edges k d).to (edge_at k d lt)))

  pub end_at_points : All (λ (e : FlowEdge). IsPoint x.image.app e.to) x.edges
  end_at_points k d lt = let q = (get_or x.edges k d).to in
      subst (λ (a : App). IsPoint a q) (sym h.is) (h.least.written.proper.points q (edge_ends app (sets_of h.table) (get_or x.edges k d).from q h.least.least.inductive (edge_at k d lt)))
