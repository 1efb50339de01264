use Rattle.abstract_state.proofs.ContainmentLaws.{meet_inductive, meet_states, meet_left, meet_right, meet_greatest}
use Rattle.abstract_state.proofs.laws.the_meet_is_inductive.Goals as goal

pub returns : goal.returns
returns c = record { inductive = meet_inductive; states = meet_states; left = meet_left; right = meet_right; greatest = meet_greatest }
