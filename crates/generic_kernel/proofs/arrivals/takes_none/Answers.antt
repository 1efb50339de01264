-- the block where a task stands says whether it is locked
use Rattle.std.proofs.Common.{rules}
use Rattle.generic_kernel.proofs.arrivals.takes_none.Goals as goal

pub returns-in-Running : goal.returns-in-Running
returns-in-Running c = search rules
