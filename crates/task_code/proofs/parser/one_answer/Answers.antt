use Rattle.task_code.proofs.{OneAnswer.{one_answer}, Viable.{some_answer}}
use Rattle.task_code.proofs.parser.one_answer.Goals as goal

pub returns-clause-some : goal.returns-clause-some
returns-clause-some c = some_answer

pub returns-clause-one : goal.returns-clause-one
returns-clause-one c = one_answer
