use Rattle.std.proofs.Common.{◌≡◌, take}
use Rattle.state_flow.specs.ExitRows.{rows_with, AreRowsJoined}
use Rattle.state_flow.proofs.joining.join_with.Given as goal

abbrev pub invariant-loop-end : goal.invariant-loop-end
invariant-loop-end l = (l.held ≡ l.fn.entry) × AreRowsJoined l.app l.pool l.initial.cells.list.items (rows_with l.pool l.fn.entry (take l.end-index l.ends)) l.cells.list.items
