use Rattle.trace_text.proofs.PointAnswers.{said, read}
use Rattle.trace_text.proofs.laws.a_line_says_a_point.Goals as goal

pub returns-clause-said : goal.returns-clause-said
returns-clause-said c = said

pub returns-clause-read : goal.returns-clause-read
returns-clause-read c = read
