use Rattle.abstract_state.proofs.AlikeLaws.{in_by_components, in_alike}
use Rattle.abstract_state.proofs.laws.alike_states_are_in_together.Goals as goal

pub returns : goal.returns
returns c = record { components = in_by_components; free = in_alike }
