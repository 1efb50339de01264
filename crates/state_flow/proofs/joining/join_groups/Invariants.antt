use Rattle.state_flow.specs.ExitRows.{all_rows, AreRowsJoined}
use Rattle.state_flow.proofs.joining.join_groups.Given as goal

abbrev pub invariant-loop-group : goal.invariant-loop-group
invariant-loop-group l = AreRowsJoined l.app l.pool l.initial.cells.list.items (all_rows l.pool l.yielded) l.cells.list.items
