use Rattle.oil_lexer.proofs.{EachText.{some_answer}, Unique.{one_answer}}
use Rattle.oil_lexer.proofs.lexer.one_answer.Goals as goal

pub returns-clause-some : goal.returns-clause-some
returns-clause-some c = some_answer

pub returns-clause-one : goal.returns-clause-one
returns-clause-one c = one_answer
