use Rattle.std.proofs.Common.{take}
use Rattle.state_flow.specs.ExitRows.{rows_at, AreRowsJoined}
use Rattle.state_flow.proofs.joining.join_at.Given as goal

abbrev pub invariant-loop-point : goal.invariant-loop-point
invariant-loop-point l = AreRowsJoined l.app l.pool l.initial.cells.list.items (rows_at l.pool l.entry (take l.point-index l.points)) l.cells.list.items
