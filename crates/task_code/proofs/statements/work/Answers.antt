use Rattle.task_code.proofs.StatementsRead.{reads_work}
use Rattle.task_code.proofs.statements.work.Goals as goal

pub returns : goal.returns
returns c = λ d. reads_work d _ _ _ _ _ _ _ c.in_ok-count.ensures.1 c.in_ok-rest.ensures.1
