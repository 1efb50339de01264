-- A statement in a list has fewer statements in it than the list.
use Rattle.std.specs.Prelude.{ℕ, ◌≤◌, max, List, [], ◌∷◌, Some, None}
use Rattle.std.proofs.Common.{arith}
use denote.Param.Weighed.{most}
use Rattle.task_code.specs.{declared.tree.{Statement.{Statement, TheVariants.{Work, If, While, Call}}, StatementList.TheDeep.{deep-Statement}}, Statements.{Statements, nodes}}
use Rattle.task_code.specs.StatementLists.{statement_before, list_of}

both : (s : Statement) (next : Statements) → (deep-Statement s ≤ nodes (statement_before s next)) × (nodes next ≤ nodes (statement_before s next))
both (Work line count) next = (omega arith, omega arith)
both (If line branch None) next = (omega arith, omega arith)
both (If line branch (Some otherwise)) next = (omega arith, omega arith)
both (While line condition body) next = (omega arith, omega arith)
both (Call line call) next = (omega arith, omega arith)

pub most_deep-le-nodes : (kids : List Statement) (close : ℕ) → most deep-Statement kids ≤ nodes (list_of kids close)
most_deep-le-nodes [] close = omega arith
most_deep-le-nodes (k ∷ kids) close = omega (arith, both k (list_of kids close), most_deep-le-nodes kids close)

pub within : (x n : ℕ) → x ≤ n → max x 0 ≤ n
within x n h = omega arith
