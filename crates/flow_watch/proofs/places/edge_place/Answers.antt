-- the edge that stands where the edge belongs is it, or none is
use Rattle.std.proofs.Common.{rules, sym, ◌∙◌}
use Rattle.std.proofs.lemmas.List.Sorted.{IsPartitionPoint-from_clause}
use Rattle.osek_standard.specs.Points.{point_number}
use Rattle.flow_watch.specs.Watches.{leads_to}
use Rattle.flow_watch.proofs.Halving.{at_place, past_end, is_below, edges_parted, only_edge}
use Rattle.flow_watch.proofs.places.edge_place.Goals as goal

pub returns-in-None : goal.returns-in-None
returns-in-None c =
    let edges = c.args.edges.now in
    let p = c.args.from in
    let q = c.args.to in
    let place = c.partition_point-place.result in
    let parts = IsPartitionPoint-from_clause (is_below (point_number p) (point_number q)) edges place c.partition_point-place.ensures.partitioned (edges_parted edges c.requires (point_number p) (point_number q)) (λ a r f k. search rules) in
    past_end (leads_to p q) edges place (only_edge edges c.requires p q place parts) c.in-None.ensures.lookup.3

pub returns-then-leads : goal.returns-then-leads
returns-then-leads c =
    let edges = c.args.edges.now in
    let p = c.args.from in
    let q = c.args.to in
    let place = c.partition_point-place.result in
    let parts = IsPartitionPoint-from_clause (is_below (point_number p) (point_number q)) edges place c.partition_point-place.ensures.partitioned (edges_parted edges c.requires (point_number p) (point_number q)) (λ a r f k. search rules) in
    at_place (leads_to p q) edges place (only_edge edges c.requires p q place parts) c.in-Some.edge.now c.in-Some.ensures.lookup.3.0 c.in-Some.ensures.lookup.3.1 ∙ sym c.leads.ensures ∙ c.if-leads.true

pub returns-else-leads : goal.returns-else-leads
returns-else-leads c =
    let edges = c.args.edges.now in
    let p = c.args.from in
    let q = c.args.to in
    let place = c.partition_point-place.result in
    let parts = IsPartitionPoint-from_clause (is_below (point_number p) (point_number q)) edges place c.partition_point-place.ensures.partitioned (edges_parted edges c.requires (point_number p) (point_number q)) (λ a r f k. search rules) in
    at_place (leads_to p q) edges place (only_edge edges c.requires p q place parts) c.in-Some.edge.now c.in-Some.ensures.lookup.3.0 c.in-Some.ensures.lookup.3.1 ∙ sym c.leads.ensures ∙ c.if-leads.false
