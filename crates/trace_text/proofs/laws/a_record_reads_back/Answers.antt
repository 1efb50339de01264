use Rattle.trace_text.proofs.RecordLaws.{reads_back}
use Rattle.trace_text.proofs.laws.a_record_reads_back.Goals as goal

pub returns : goal.returns
returns c = reads_back
