use Rattle.abstract_state.proofs.Numbers.{component_here, number_known}
use Rattle.abstract_state.proofs.laws.components_stand_at_their_numbers.Goals as goal

pub returns : goal.returns
returns c = record { here = component_here; known = number_known }
