use Rattle.abstract_state.proofs.ContainmentLaws.{in_larger}
use Rattle.abstract_state.proofs.laws.states_stay_in_larger_tables.Goals as goal

pub returns : goal.returns
returns c = in_larger
