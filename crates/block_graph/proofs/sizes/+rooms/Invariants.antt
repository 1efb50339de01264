use Rattle.std.proofs.Common.{◌≡◌, ℕ, ◌+◌, ◌*◌, ◌≤◌, List, ◌++◌, drop}
use Rattle.task_code.specs.{Statements.{closed, closing_line, nodes}, StatementLists.{statement_before, list_of}}
use Rattle.block_graph.specs.Rules.{statement_lines}
use Rattle.block_graph.proofs.sizes.+rooms.Given as goal

abbrev pub decreases-room_behind : goal.decreases-room_behind
decreases-room_behind l = 2 * nodes l.list.now + 1

abbrev pub decreases-room_behind_statement : goal.decreases-room_behind_statement
decreases-room_behind_statement l = 2 * nodes (statement_before l.statement.now (closed 0))

abbrev pub invariant-room_behind-loop-statement : goal.invariant-room_behind-loop-statement
invariant-room_behind-loop-statement l = record {
  same : (more : List ℕ) → drop l.left (statement_lines (list_of (drop l.statement-index l.statement-items) (closing_line l.list)) ++ more) ≡ drop l.room (statement_lines l.list ++ more);
  fewer : nodes (list_of (drop l.statement-index l.statement-items) (closing_line l.list)) ≤ nodes l.list;
}
