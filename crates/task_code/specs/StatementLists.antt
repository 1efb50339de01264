-- The list of statements that a vector holds.
use Rattle.std.specs.Prelude.{ℕ, List, [], ◌∷◌, Some, None}
use Rattle.task_code.specs.declared.tree.Statement.{Statement, TheVariants.{Work, If, While, Call}}
use Rattle.task_code.specs.Statements.{Statements, closed, work_then, if_then, if_else_then, while_then, call_then}

-- a statement, and behind it a list
abbrev pub statement_before : Statement → Statements → Statements
statement_before (Work line count) next = work_then line count next
statement_before (If line branch None) next = if_then line branch next
statement_before (If line branch (Some otherwise)) next = if_else_then line branch otherwise next
statement_before (While line condition body) next = while_then line condition body next
statement_before (Call line call) next = call_then line call next

-- the statements of a vector, and behind them a list
abbrev pub list_before : List Statement → Statements → Statements
list_before [] next = next
list_before (s ∷ more) next = statement_before s (list_before more next)

abbrev pub list_of : List Statement → ℕ → Statements
list_of statements close = list_before statements (closed close)
