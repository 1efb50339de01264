use Rattle.abstract_state.proofs.ContainmentLaws.{full_inductive, in_full}
use Rattle.abstract_state.proofs.laws.the_full_table_is_inductive.Goals as goal

pub returns : goal.returns
returns c = record { inductive = full_inductive; states = in_full }
