use Rattle.abstract_state.proofs.MarkLaws.{shown_instruction, shown_arrival, shown_silent}
use Rattle.abstract_state.proofs.laws.a_step_does_what_it_shows.Goals as goal

pub returns : goal.returns
returns c = record { did = shown_instruction; arrived = shown_arrival; silent = shown_silent }
