-- a DisableAll among the locks
use Rattle.std.proofs.Common.{sym, ap, ◌∙◌}
use Rattle.block_graph.specs.Locks.{is_doubled}
use Rattle.block_graph.proofs.locks.is_doubled.Goals as goal

pub returns-in-DisableAll : goal.returns-in-DisableAll
returns-in-DisableAll c = c.is_disabled.ensures ∙ sym (ap (is_doubled c.args.locks.now) c.in-DisableAll.is)
