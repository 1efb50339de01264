use Rattle.trace_text.proofs.EventLaws.{read_as_said, said_as_read}
use Rattle.trace_text.proofs.laws.a_line_is_read_as_what_it_says.Goals as goal

pub returns-clause-read : goal.returns-clause-read
returns-clause-read c = read_as_said

pub returns-clause-said : goal.returns-clause-said
returns-clause-said c = said_as_read
