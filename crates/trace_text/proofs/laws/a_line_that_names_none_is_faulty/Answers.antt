use Rattle.trace_text.proofs.OtherLines.{faulty_if_none, none_if_faulty}
use Rattle.trace_text.proofs.laws.a_line_that_names_none_is_faulty.Goals as goal

pub returns-clause-faulty : goal.returns-clause-faulty
returns-clause-faulty c = faulty_if_none

pub returns-clause-only_then : goal.returns-clause-only_then
returns-clause-only_then c = none_if_faulty
