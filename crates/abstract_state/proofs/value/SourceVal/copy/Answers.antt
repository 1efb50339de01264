-- the block and the resources are the same
use Rattle.std.proofs.Common.{rules}
use Rattle.abstract_state.proofs.value.SourceVal.copy.Goals as goal

pub returns-in-In : goal.returns-in-In
returns-in-In c = search rules
