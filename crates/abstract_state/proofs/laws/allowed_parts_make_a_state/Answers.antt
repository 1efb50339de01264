use Rattle.abstract_state.proofs.ConcreteLaws.{state_has_parts, choice_allowed}
use Rattle.abstract_state.proofs.laws.allowed_parts_make_a_state.Goals as goal

pub returns : goal.returns
returns c = record { state = state_has_parts; choice = choice_allowed }
