use Rattle.abstract_state.proofs.ContainmentLaws.{contained_itself, contained_onward, contained_equal}
use Rattle.abstract_state.proofs.laws.containment_is_a_partial_order.Goals as goal

pub returns : goal.returns
returns c = record { itself = contained_itself; onward = contained_onward; equal = contained_equal }
