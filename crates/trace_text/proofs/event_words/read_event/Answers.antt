-- what a line says
use Rattle.std.proofs.Common.{rules}
use Rattle.trace_text.proofs.event_words.read_event.Goals as goal

pub returns : goal.returns
returns c = search rules
