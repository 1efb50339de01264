use Rattle.std.proofs.Common.{take}
use Rattle.std.specs.Prelude.{Contains}
use Rattle.point_exits.specs.declared.group.NumberEnd.{NumberEnd}
use Rattle.state_flow.specs.ExitRows.{rows_with, AreRowsJoined}
use Rattle.state_flow.proofs.EndsInTurn.{TakesEnd}
use Rattle.state_flow.proofs.joining.join_in_turn.Given as goal

abbrev pub invariant-loop-end : goal.invariant-loop-end
invariant-loop-end l =
    ((x : NumberEnd) → Contains l.ends x → TakesEnd l.fn.entry l.held x)
    × AreRowsJoined l.app l.pool l.initial.cells.list.items (rows_with l.pool l.fn.entry (take l.end-index l.ends)) l.cells.list.items
