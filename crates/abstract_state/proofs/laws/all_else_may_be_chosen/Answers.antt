use Rattle.abstract_state.proofs.Concretes.{free_latches, free_offset, free_routine_offset, free_arming, free_counter, free_first}
use Rattle.abstract_state.proofs.laws.all_else_may_be_chosen.Goals as goal

pub returns : goal.returns
returns c = record { latches = free_latches; offset = free_offset; routine_offset = free_routine_offset; arming = free_arming; counter = free_counter; first = free_first }
