use Rattle.kernel_guarantees.proofs.GoingOn.{goes_on_next, next_goes_on, none_goes_on, nothing_goes_on}
use Rattle.kernel_guarantees.proofs.definitions.routine_that_goes_on_has_the_property.Goals as goal

pub returns : goal.returns
returns c = record { is = next_goes_on; found = goes_on_next; none = none_goes_on; only_where_none = nothing_goes_on }
