use Rattle.task_code.proofs.Fronts.{choice_is, always_is}
use Rattle.task_code.proofs.phrases.condition.Goals as goal

pub returns-in-Mark-Question : goal.returns-in-Mark-Question
returns-in-Mark-Question c = (_, c.in_ok-token.ensures, choice_is _ _ c.in-Mark-Question.is (rw c.in-Mark-Question.is at c.in-Mark-Question.field-0-is))

pub returns-in-Number-eq1 : goal.returns-in-Number-eq1
returns-in-Number-eq1 c =
    let test = rw c.in-Number-eq1.is at c.in-Number-eq1.field-0-test in
    (_, c.in_ok-token.ensures, always_is _ _ c.in-Number-eq1.is test)
