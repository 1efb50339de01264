-- an edge that leads so is one of them
use Rattle.std.proofs.Common.{sym, ◌∙◌, ap}
use Rattle.std.proofs.lemmas.List.Folds.{list_any_at}
use Rattle.flow_watch.specs.Watches.{leads_to}
use Rattle.flow_watch.proofs.places.leads_at.Goals as goal

pub returns-in-Some : goal.returns-in-Some
returns-in-Some c = λ yes.
    let edges = c.args.edges.now in
    let is = leads_to c.args.from c.args.to in
    let edge = c.in-Some.edge.now in
    list_any_at is edges c.args.place edge c.in-Some.ensures.lookup.3.0 (ap is (sym (c.in-Some.ensures.lookup.3.1 edge)) ∙ sym c.leads.ensures ∙ yes)
