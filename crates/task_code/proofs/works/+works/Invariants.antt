use Rattle.std.proofs.Common.{◌≡◌, ◌+◌, ◌*◌, ◌≤◌, drop}
use Rattle.task_code.specs.{Faults.{wrong_works}, FirstLines.{first_line}, Statements.{closed, closing_line, nodes}, StatementLists.{statement_before, list_of}}
use Rattle.task_code.proofs.works.+works.Given as goal

abbrev pub decreases-wrong_work : goal.decreases-wrong_work
decreases-wrong_work l = 2 * nodes l.list.now + 1

abbrev pub decreases-wrong_work_of : goal.decreases-wrong_work_of
decreases-wrong_work_of l = 2 * nodes (statement_before l.statement.now (closed 0))

abbrev pub invariant-wrong_work-loop-statement : goal.invariant-wrong_work-loop-statement
invariant-wrong_work-loop-statement l = record {
  same : first_line (wrong_works (list_of (drop l.statement-index l.statement-items) (closing_line l.list))) ≡ first_line (wrong_works l.list);
  fewer : nodes (list_of (drop l.statement-index l.statement-items) (closing_line l.list)) ≤ nodes l.list;
}
