-- the last of a Live task's stack
use Rattle.std.proofs.Common.{rules}
use Rattle.ceiling_rules.proofs.is_on_top.Goals as goal

pub returns-in-Live : goal.returns-in-Live
returns-in-Live c = rw (c.task.ensures, c.in-Live.is) (search rules)
