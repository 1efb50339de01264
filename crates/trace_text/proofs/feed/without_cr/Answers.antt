-- a line without its CR
use Rattle.std.proofs.Common.{rules}
use Rattle.trace_text.proofs.feed.without_cr.Goals as goal

pub returns-in-13 : goal.returns-in-13
returns-in-13 c = search rules
