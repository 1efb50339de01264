-- what was put behind what was held back, or a prefix of both
use Rattle.std.proofs.Common.{◌++◌}
use Rattle.command_runs.proofs.Prefixes.{prefix_of_proper}
use Rattle.commands.proofs.printing.put_line.Goals as goal

pub returns-in-Ok-clause-ok : goal.returns-in-Ok-clause-ok
returns-in-Ok-clause-ok g c = (c.in-Ok.ensures.no_fault, c.in-Ok.ensures.ok)

pub returns-in-Err-clause-prefix : goal.returns-in-Err-clause-prefix
returns-in-Err-clause-prefix g c = ((c.in-Err.ensures.cause, prefix_of_proper _ _ (c.args.buffer.now ++ c.args.line.now) c.in-Err.ensures.prefix), c.in-Err.ensures.lost)
