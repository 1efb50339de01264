use Rattle.std.proofs.Common.{◌≡◌, ◌+◌, ◌*◌, ◌≤◌, drop}
use Rattle.oil_model.specs.Lines.{sooner, least}
use Rattle.task_code.specs.{Statements.{closed, closing_line, nodes}, StatementLists.{statement_before, list_of}}
use Rattle.block_graph.specs.{Rules.{from_calls}, CallRules.{lines_of}}
use Rattle.block_graph.proofs.calls.+calls_of.Given as goal

abbrev pub decreases-least_of_list : goal.decreases-least_of_list
decreases-least_of_list l = 2 * nodes l.list.now + 1

abbrev pub decreases-least_of_statement : goal.decreases-least_of_statement
decreases-least_of_statement l = 2 * nodes (statement_before l.statement.now (closed 0))

abbrev pub invariant-least_of_list-loop-statement : goal.invariant-least_of_list-loop-statement
invariant-least_of_list-loop-statement l = record {
  same : sooner l.best (least (from_calls (lines_of l.rule l.system) (list_of (drop l.statement-index l.statement-items) (closing_line l.list)))) ≡ least (from_calls (lines_of l.rule l.system) l.list);
  fewer : nodes (list_of (drop l.statement-index l.statement-items) (closing_line l.list)) ≤ nodes l.list;
}
