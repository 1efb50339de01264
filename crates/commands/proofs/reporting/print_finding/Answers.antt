-- the prefix of the line's room is the line
use Rattle.std.proofs.Common.{◌∙◌}
use Rattle.commands.proofs.reporting.print_finding.Goals as goal

pub returns-clause-ok : goal.returns-clause-ok
returns-clause-ok g c = rw (c.prefix.ensures ∙ c.write_finding_line-size.ensures.line) at c.put_line.ensures.ok

pub returns-clause-prefix : goal.returns-clause-prefix
returns-clause-prefix g c = rw (c.prefix.ensures ∙ c.write_finding_line-size.ensures.line) at c.put_line.ensures.prefix
