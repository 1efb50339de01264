use Rattle.std.proofs.Common.{◌≡◌, ◌+◌, ◌*◌, ◌≤◌, drop}
use Rattle.task_code.specs.{Statements.{closed, closing_line, nodes}, StatementLists.{statement_before, list_of}}
use Rattle.block_graph.specs.Locks.{walked}
use Rattle.block_graph.proofs.walk.+walking.Given as goal

abbrev pub decreases-walk : goal.decreases-walk
decreases-walk l = 2 * nodes l.list.now + 1

abbrev pub decreases-walk_statement : goal.decreases-walk_statement
decreases-walk_statement l = 2 * nodes (statement_before l.statement.now (closed 0))

abbrev pub invariant-walk-loop-statement : goal.invariant-walk-loop-statement
invariant-walk-loop-statement l = record {
  same : walked (list_of (drop l.statement-index l.statement-items) (closing_line l.list)) l.«open» ≡ walked l.list l.locks;
  fewer : nodes (list_of (drop l.statement-index l.statement-items) (closing_line l.list)) ≤ nodes l.list;
}
