use Rattle.std.proofs.Common.{sym}
use Rattle.task_code.proofs.Lists.{closing_line-list_of}
use Rattle.task_code.proofs.tree.StatementList.closing_line.Goals as goal

pub returns : goal.returns
returns c = rw (← c.self.view_is) (sym (closing_line-list_of c.self.inside.statements.items c.self.inside.close))
