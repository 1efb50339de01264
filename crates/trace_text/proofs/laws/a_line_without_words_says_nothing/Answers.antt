use Rattle.trace_text.proofs.OtherLines.{silent_if_nothing, nothing_if_silent}
use Rattle.trace_text.proofs.laws.a_line_without_words_says_nothing.Goals as goal

pub returns-clause-nothing : goal.returns-clause-nothing
returns-clause-nothing c = silent_if_nothing

pub returns-clause-only_then : goal.returns-clause-only_then
returns-clause-only_then c = nothing_if_silent
