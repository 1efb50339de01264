-- The edges of the first rows of a table.
use Rattle.std.proofs.Common.{◌≡◌, ◌<◌, List, [], ◌∷◌, ◌++◌, length, map, get_or, refl, sym, ap, subst, inl, inr, arith}
use Rattle.std.specs.Prelude.{◌↔◌, Contains}
use Rattle.std.proofs.lemmas.List.{get_or-map, length-map, Elements.{Contains-append_left, Contains-append_right, Contains-append_cases, Contains-push, Contains-push_cases}}
use Rattle.osek_standard.specs.{declared.{app.App.{App}, point.Point.{Point}}, Points.{point_number}}
use Rattle.osek_standard.proofs.Members.{among_contained, among_map, contained_among, map_among}
use Rattle.abstract_state.specs.{declared.{table.{TableRow.{TableRow}, PlainTable.{PlainTable}}, edge.FlowEdge.{FlowEdge}}, Edges.{Edge}}
use Rattle.abstract_state.specs.{Tables.{sets_of}, Written.{IsWritten}}
use Rattle.abstract_state.specs.Edges.{flow_edge}
use Rattle.table_rows.specs.Order.{AscendBy}
use Rattle.global_cfg.specs.{Edges.{IsBefore, AreAscending}, Targets.{LeadsTo, AreTargets, AreOfRows}}
use Rattle.global_cfg.proofs.{Pairs.{pairs_append}, TableRows.{edge_shown, edge_leads, edge_row}}

-- edges from one point stand as their targets do
from_one : (p : Point) (targets : List Point) → AscendBy point_number targets → AreAscending (map (flow_edge p) targets)
from_one p targets order i j d lt below =
    let there : j < length targets = omega (arith, below, length-map targets (flow_edge p)) in
    let first = get_or-map (flow_edge p) targets i p d (omega (arith, lt, there)) in
    let second = get_or-map (flow_edge p) targets j p d there in
    subst (λ (x : FlowEdge). IsBefore x (get_or (map (flow_edge p) targets) j d)) (sym first)
    (subst (IsBefore (flow_edge p (get_or targets i p))) (sym second) (inr (refl, order.before i j p lt there)))

module _ (app : App) where
  -- one more row, whose point is above those of the others
  pub of_more_rows : (done : List TableRow) (row : TableRow) (edges : List FlowEdge) (targets : List Point) → ((x : TableRow) → Contains done x → point_number x.point < point_number row.point) → AreOfRows app done edges → AreTargets app row.point row.entry targets
      → AreOfRows app (done ++ row ∷ []) (edges ++ map (flow_edge row.point) targets)
  of_more_rows done row edges targets above so_far these =
      let new = map (flow_edge row.point) targets in
      let shape : (x : FlowEdge) → Contains new x → (q : Point) × Contains targets q × (x ≡ flow_edge row.point q) = λ x h.
      (let m = map_among (flow_edge row.point) x targets (contained_among new x h) in (m.0, among_contained targets m.0 m.1, m.2)) in
      record {
        ascending = pairs_append IsBefore edges new so_far.ascending (from_one row.point targets these.order) (λ x y h k.
            let old = so_far.each x h in
            let to = shape y k in
            inl (omega (arith, above old.row old.listed, ap point_number old.begins, ap (λ (z : FlowEdge). point_number z.from) to.2)));
        each = λ x h. elim (Contains-append_cases edges new x h) [
          | inl old ↦ (let o = so_far.each x old in record { row = o.row; listed = Contains-append_left done (row ∷ []) o.row o.listed; begins = o.begins; leads = o.leads })
          | inr here ↦
              (let to = shape x here in
              record {
                row = row;
                listed = Contains-push done row;
                begins = ap (λ (z : FlowEdge). z.from) to.2;
                leads = subst (LeadsTo app row.point row.entry) (sym (ap (λ (z : FlowEdge). z.to) to.2)) (these.each to.0 to.1);
              })
        ];
        all = λ x q h leads. elim (Contains-push_cases done row x h) [
          | inl old ↦ Contains-append_left edges new (flow_edge x.point q) (so_far.all x q old leads)
          | inr same ↦
              (let led : LeadsTo app row.point row.entry q = subst (λ (r : TableRow). LeadsTo app r.point r.entry q) (sym same) leads in
              subst (λ (r : TableRow). Contains (edges ++ new) (flow_edge r.point q)) same
              (Contains-append_right edges new (flow_edge row.point q) (among_contained new (flow_edge row.point q) (among_map (flow_edge row.point) q targets (contained_among targets q (these.all q led))))))
        ];
      }

  -- the edges of all rows are those of the table
  pub of_all_rows : (table : PlainTable) (edges : List FlowEdge) → IsWritten app table → AreOfRows app table.rows edges → (p q : Point) → Contains edges (flow_edge p q) ↔ Edge app (sets_of table) p q
  of_all_rows table edges written done p q = (
    λ h. (let o = done.each (flow_edge p q) h in subst (λ (r : Point). Edge app (sets_of table) r q) (sym o.begins) (edge_shown app table written o.row o.listed q o.leads)),
    λ x.
        (let r = edge_row app table written p q x in
        subst (λ (y : Point). Contains edges (flow_edge y q)) r.point
        (done.all r.row q r.among (edge_leads app table written r.row r.among q (subst (λ (y : Point). Edge app (sets_of table) y q) (sym r.point) x)))),
  )
