use Rattle.std.proofs.Common.{ℕ, List, sym, ap, ap₂, ◌∙◌}
use Rattle.flow_model.specs.declared.change.Change.{Change}
use Rattle.point_exits.specs.Changing.{is_named}
use Rattle.point_exits.proofs.ChangedSets.{none_before}
use Rattle.point_exits.proofs.changes.PlacedChange.was_named.Goals as goal

pub returns-then-self : goal.returns-then-self
returns-then-self c =
    let x = c.args.self.now in
    sym (none_before x.changes.now x.place x.change.now.component.0 x.known (x.order c.if-self.true) (λ y at. ap (λ (z : Change). z.component.0) (sym at ∙ x.there y)))

pub returns : goal.returns
returns c = c.is_named.ensures ∙ ap₂ (λ (xs : List Change) (j : ℕ). is_named xs c.args.self.now.place j) c.as_slice.ensures c.index-component.ensures
