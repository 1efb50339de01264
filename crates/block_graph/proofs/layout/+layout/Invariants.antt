use Rattle.std.proofs.Common.{◌≡◌, ◌+◌, ◌*◌, ◌≤◌, ◌++◌, drop}
use Rattle.task_code.specs.{Fit.{HasCounts}, Statements.{closing_line, nodes}, StatementLists.{list_of}}
use Rattle.block_graph.specs.{Blocks.{blocks_of}, StatementBlocks.{statement_nodes}}
use Rattle.block_graph.proofs.layout.+layout.Given as goal

abbrev pub decreases-lay_out : goal.decreases-lay_out
decreases-lay_out l = 2 * nodes l.list.now + 1

abbrev pub decreases-lay_out_statement : goal.decreases-lay_out_statement
decreases-lay_out_statement l = 2 * statement_nodes l.statement.now

abbrev pub invariant-lay_out-loop-i : goal.invariant-lay_out-loop-i
invariant-lay_out-loop-i l = record {
  same : l.blocks.items ++ blocks_of l.system (list_of (drop l.i l.statements) (closing_line l.list)) l.number l.after l.open ≡ l.initial.blocks.items ++ blocks_of l.system l.list l.first l.after l.locks;
  room : l.number + nodes (list_of (drop l.i l.statements) (closing_line l.list)) ≡ l.first + nodes l.list;
  fewer : nodes (list_of (drop l.i l.statements) (closing_line l.list)) ≤ nodes l.list;
  counts : HasCounts (list_of (drop l.i l.statements) (closing_line l.list));
}
