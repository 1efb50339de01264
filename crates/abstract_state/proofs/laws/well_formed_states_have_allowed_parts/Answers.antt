use Rattle.abstract_state.proofs.AllowedLaws.{well_point, well_part}
use Rattle.abstract_state.proofs.laws.well_formed_states_have_allowed_parts.Goals as goal

pub returns : goal.returns
returns c = record { point = well_point; parts = well_part }
