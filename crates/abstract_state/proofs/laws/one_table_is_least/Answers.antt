use Rattle.abstract_state.proofs.ContainmentLaws.{one_least}
use Rattle.abstract_state.proofs.laws.one_table_is_least.Goals as goal

pub returns : goal.returns
returns c = one_least
