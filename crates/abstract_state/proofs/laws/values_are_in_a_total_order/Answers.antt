use Rattle.abstract_state.proofs.OrderLaws.{order_total, tied_same}
use Rattle.abstract_state.proofs.laws.values_are_in_a_total_order.Goals as goal

pub returns : goal.returns
returns c = record { total = order_total; ties = tied_same }
