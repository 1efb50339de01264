use Rattle.trace_text.proofs.TextLaws.{reads_back}
use Rattle.trace_text.proofs.laws.a_text_of_events_reads_back.Goals as goal

pub returns : goal.returns
returns c = reads_back
