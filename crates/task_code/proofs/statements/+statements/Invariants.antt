use Rattle.std.proofs.Common.{◌≡◌, ◌+◌, ◌-◌, ◌*◌, ◌≤◌, List, ◌∷◌, length}
use Rattle.oil_lexer.specs.declared.token.Token.{Token}
use Rattle.task_code.specs.{Statements.{Statements}, StatementLists.{list_before}, Fit.{depth}, Grammar.{IsStatements}, Expect.{some_statements, Stack, scan}}
use Rattle.task_code.proofs.statements.+statements.Given as goal

abbrev pub decreases-conditional : goal.decreases-conditional
decreases-conditional l = 4 * (33 - l.depth) + 1

abbrev pub decreases-repetition : goal.decreases-repetition
decreases-repetition l = 4 * (33 - l.depth) + 1

abbrev pub decreases-statement : goal.decreases-statement
decreases-statement l = 4 * (33 - l.depth) + 2

abbrev pub decreases-statements : goal.decreases-statements
decreases-statements l = 4 * (33 - l.depth) + 3

abbrev pub decreases-block : goal.decreases-block
decreases-block l = 4 * (33 - l.depth)

abbrev pub invariant-statements-loop-found : goal.invariant-statements-loop-found
invariant-statements-loop-found l = record {
  joins : (next : Statements) (last : List Token) → IsStatements next l.rest last → IsStatements (list_before l.found.items next) l.tokens last;
  takes : (stack : Stack) → scan l.depth (some_statements ∷ stack) l.tokens ≡ scan l.depth (some_statements ∷ stack) l.rest;
  within : (next : Statements) → depth next + l.depth ≤ 32 → depth (list_before l.found.items next) + l.depth ≤ 32;
}

abbrev pub decreases-statements-loop-found : goal.decreases-statements-loop-found
decreases-statements-loop-found l = length l.rest
