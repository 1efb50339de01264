use Rattle.task_code.proofs.Lists.{list_of-closing_line}
use Rattle.task_code.proofs.tree.StatementList.as_slice.Goals as goal

pub returns : goal.returns
returns c = rw (← c.self.view_is, c.as_slice.ensures.value) (list_of-closing_line c.self.inside.statements.items c.self.inside.close)
