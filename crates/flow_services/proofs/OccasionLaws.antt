-- A service that changes nothing.
use Rattle.std.proofs.Common.{◌≡◌, List, [], sym, ap, ◌∙◌}
use Rattle.std.proofs.lemmas.List.{append-nil}
use Rattle.std.specs.declared.option.Option.{Option}
use Rattle.osek_values.specs.declared.status.Status.{Status}
use Rattle.flow_model.specs.declared.{change.Change.{Change}, test.Condition.{Condition}}
use Rattle.flow_services.specs.{declared.occasion.{Queued.{Queued}, Occasion.{Occasion}}, Occasions.{service_case, begun, case_by, case_at}}

-- what comes before it is all that changes
pub changing_nothing : (o : Occasion) (conditions : List Condition) (changes : List Change) (status : Option Status) (q : Queued) → changes ≡ begun o → case_by o conditions changes status q ≡ case_at o (service_case conditions [] status q)
changing_nothing o conditions changes status q is = ap (λ (xs : List Change). case_by o conditions xs status q) (is ∙ sym (append-nil (begun o)))
