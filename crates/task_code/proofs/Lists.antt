-- The list of statements of a vector ends at its closing brace.
use Rattle.std.proofs.Common.{◌≡◌, ℕ, List, [], ◌∷◌, refl, ap, ◌∙◌}
use Rattle.std.specs.Prelude.{Some, None}
use Rattle.task_code.specs.{declared.tree.Statement.{Statement, TheVariants.{Work, If, While, Call}}, Statements.{Statements, closing_line}}
use Rattle.task_code.specs.StatementLists.{statement_before, list_of}

behind : (s : Statement) (next : Statements) → closing_line (statement_before s next) ≡ closing_line next
behind (Work line count) next = refl
behind (If line branch None) next = refl
behind (If line branch (Some otherwise)) next = refl
behind (While line condition body) next = refl
behind (Call line call) next = refl

pub closing_line-list_of : (statements : List Statement) (close : ℕ) → closing_line (list_of statements close) ≡ close
closing_line-list_of [] close = refl
closing_line-list_of (s ∷ more) close = behind s (list_of more close) ∙ closing_line-list_of more close

pub list_of-closing_line : (statements : List Statement) (close : ℕ) → list_of statements (closing_line (list_of statements close)) ≡ list_of statements close
list_of-closing_line statements close = ap (list_of statements) (closing_line-list_of statements close)
