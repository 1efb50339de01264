use Rattle.std.proofs.Common.{[], ◌∷◌, ◌++◌, ◌∙◌, List, map, sym, ap, subst}
use Rattle.osek_standard.specs.declared.point.Point.{Point}
use Rattle.abstract_state.specs.Edges.{flow_edge}
use Rattle.global_cfg.specs.Targets.{AreEndsPut, AreOfRows}
use Rattle.global_cfg.proofs.{EdgeLists.{of_more_rows}, ExitTargets.{ends_are_targets}}
use Rattle.global_cfg.proofs.graph.EdgesOfRowsRowFold.add.Goals as goal

pub returns : goal.returns
returns c = λ rows row at next so_far.
    let app = c.args._app.now in
    let exits = c.args.exits.now in
    let are = next.are.are in
    let targets = c.in_ok-targets.targets.items in
    let put = subst (λ (p : Point). AreEndsPut p exits [] targets) (sym at) c.in_ok-targets.ensures in
    let these = ends_are_targets app row.point row.entry next.are.whole are.exact exits next.are.bare targets are.steps put in
    let edges = c.args.self.now.edges in
    let is =
    c.in_ok-add_edges.ensures ∙ ap (λ (ts : List Point). edges ++ map (flow_edge c.args.point) ts) c.as_slice.ensures.value
    ∙ ap (λ (p : Point). edges ++ map (flow_edge p) targets) (sym at) in
    subst (AreOfRows app (rows ++ row ∷ [])) (sym is) (of_more_rows app rows row edges targets next.above so_far these)
