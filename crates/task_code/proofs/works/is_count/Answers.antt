-- a count that is not 0
use Rattle.std.proofs.Common.{rules}
use Rattle.task_code.proofs.works.is_count.Goals as goal

pub returns-then-count-ge1 : goal.returns-then-count-ge1
returns-then-count-ge1 c = search rules
