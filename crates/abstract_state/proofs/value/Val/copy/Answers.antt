-- the block and the resources are the same
use Rattle.std.proofs.Common.{rules}
use Rattle.abstract_state.proofs.value.Val.copy.Goals as goal

pub returns-in-Live : goal.returns-in-Live
returns-in-Live c = search rules
