use Rattle.std.proofs.Common.{◌≡◌, ◌+◌, ◌*◌, drop}
use Rattle.task_code.specs.{Statements.{closing_line, nodes}, StatementLists.{list_of}}
use Rattle.block_graph.specs.StatementBlocks.{statement_nodes}
use Rattle.block_graph.proofs.layout.+nodes.Given as goal

abbrev pub decreases-nodes : goal.decreases-nodes
decreases-nodes l = 2 * nodes l.list.now + 1

abbrev pub decreases-statement_nodes : goal.decreases-statement_nodes
decreases-statement_nodes l = 2 * statement_nodes l.statement.now

abbrev pub invariant-nodes-loop-statement : goal.invariant-nodes-loop-statement
invariant-nodes-loop-statement l = l.count + nodes (list_of (drop l.statement-index l.statement-items) (closing_line l.list)) ≡ nodes l.list
