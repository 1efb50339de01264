-- The stack of expectations takes each phrase of the grammar.
use Rattle.std.proofs.Common.{◌≡◌, List, [], ◌∷◌, ◌++◌, refl, ap, ◌∙◌}
use Rattle.std.specs.Prelude.{Option, Some}
use Rattle.oil_lexer.specs.{declared.token.{Mark.TheVariants.{OpenBrace, OpenParen, CloseParen, Semicolon, Question}, Token.{Token}}, Tokens.{name, number, mark}}
use Rattle.task_code.specs.declared.{call.{Reference.{Reference}, Call.{Call}}, tree.{Body.{Body}, Condition.{Condition}}, words.{Service.{Service}, StatementWord.{StatementWord}}}
use Rattle.task_code.specs.{Statements.{Statements}, Words.{statement_word}}
use Rattle.task_code.specs.Grammar.{IsMask, last_event, more_events, IsCall, plain, object, mask, set_event, alarm, shutdown, IsCondition, choice, always, IsStatements, no_more, a_work, an_if, an_if_else, a_while, AreBodies, no_body, a_body}
use Rattle.task_code.specs.Grammar as grammar
use Rattle.task_code.specs.Expect.{Phrase, some_statements, after_if, mask_rest, a_name, a_condition, a_semicolon, close_paren, Stack, operands, statement_step, else_step, status_step, body_phrases, body_step, step, run}
use Rattle.oil_lexer.proofs.PhraseStacks as stacks
use Rattle.task_code.proofs.Elses.{else_is_no_statement}

-- the run behind a first token
abbrev pub behind : Stack → List Token → Option Stack → Option Stack
behind = stacks.behind Phrase step body_step

run_mask : {m : List Reference} {ts rest : List Token} → IsMask m ts rest → (stack : Stack) → run (a_name ∷ (mask_rest ∷ stack)) ts ≡ run stack rest
run_mask last_event stack = refl
run_mask (more_events more) stack = run_mask more stack

run_call : {s : Service} {c : Call} {ts rest : List Token} → IsCall s c ts rest → (tail stack : Stack) → run ((operands s ++ tail) ++ stack) ts ≡ run (tail ++ stack) rest
run_call plain tail stack = refl
run_call object tail stack = refl
run_call (mask m) tail stack = run_mask m (tail ++ stack)
run_call (set_event m) tail stack = run_mask m (tail ++ stack)
run_call alarm tail stack = refl
run_call (shutdown {l' = l'} {rest = rest} e) tail stack = ap (λ o. behind (close_paren ∷ (tail ++ stack)) (mark CloseParen l' ∷ rest) (status_step o)) e

run_condition : {c : Condition} {t : Token} → IsCondition c t → (stack : Stack) (ts : List Token) → run (a_condition ∷ stack) (t ∷ ts) ≡ run stack ts
run_condition choice stack ts = refl
run_condition always stack ts = refl

-- a list of statements doesn't begin with `else`
same_step : {s : Statements} {t : Token} {more rest : List Token} → IsStatements s (t ∷ more) rest → step after_if t.kind ≡ step some_statements t.kind
same_step no_more = refl
same_step (a_work {w = w} e more) = ap (λ b. else_step b (statement_word w)) (else_is_no_statement w _ e)
same_step (an_if {w = w} e first next) = ap (λ b. else_step b (statement_word w)) (else_is_no_statement w _ e)
same_step (an_if_else {w = w} e first is second next) = ap (λ b. else_step b (statement_word w)) (else_is_no_statement w _ e)
same_step (a_while {w = w} e c body next) = ap (λ b. else_step b (statement_word w)) (else_is_no_statement w _ e)
same_step (grammar.a_call {w = w} e c next) = ap (λ b. else_step b (statement_word w)) (else_is_no_statement w _ e)

no_else : {s : Statements} {rest : List Token} (ts : List Token) → IsStatements s ts rest → (stack : Stack) → run (after_if ∷ stack) ts ≡ run (some_statements ∷ stack) ts
no_else [] is stack = elim is [ ]
no_else (t ∷ more) is stack = ap (behind stack more) (same_step is)

-- behind the word of a statement
abbrev by_word : Stack → List Token → Option StatementWord → Option Stack
by_word stack ts w = behind stack ts (statement_step w)

run_statements : {s : Statements} {ts rest : List Token} → IsStatements s ts rest → (stack : Stack) → run (some_statements ∷ stack) ts ≡ run stack rest
run_statements no_more stack = refl
run_statements (a_work {l1 = l1} {l2 = l2} {v = v} {a = a} e more) stack = ap (by_word stack (number v l1 ∷ (mark Semicolon l2 ∷ a))) e ∙ run_statements more stack
run_statements (an_if {l1 = l1} {l2 = l2} {l3 = l3} {l4 = l4} {a = a} e first next) stack =
    ap (by_word stack (mark OpenParen l1 ∷ (mark Question l2 ∷ (mark CloseParen l3 ∷ (mark OpenBrace l4 ∷ a))))) e ∙ run_statements first _ ∙ no_else _ next stack ∙ run_statements next stack
run_statements (an_if_else {w' = w'} {l1 = l1} {l2 = l2} {l3 = l3} {l4 = l4} {l6 = l6} {a = a} {b = b} e first is second next) stack =
    ap (by_word stack (mark OpenParen l1 ∷ (mark Question l2 ∷ (mark CloseParen l3 ∷ (mark OpenBrace l4 ∷ a))))) e ∙ run_statements first _ ∙ ap (λ x. behind stack (mark OpenBrace l6 ∷ b) (else_step x (statement_word w'))) is ∙ run_statements second _ ∙ run_statements next stack
run_statements (a_while {l1 = l1} {l3 = l3} {l4 = l4} {t = t} {a = a} e c body next) stack =
    ap (by_word stack (mark OpenParen l1 ∷ (t ∷ (mark CloseParen l3 ∷ (mark OpenBrace l4 ∷ a))))) e ∙ run_condition c _ (mark CloseParen l3 ∷ (mark OpenBrace l4 ∷ a)) ∙ run_statements body _ ∙ run_statements next stack
run_statements (grammar.a_call {l1 = l1} {a = a} e c next) stack = ap (by_word stack (mark OpenParen l1 ∷ a)) e ∙ run_call c (a_semicolon ∷ (some_statements ∷ [])) stack ∙ run_statements next stack

pub run_bodies : {bodies : List Body} {ts : List Token} → AreBodies bodies ts → run [] ts ≡ Some []
run_bodies no_body = refl
run_bodies (a_body {n = n} {l1 = l1} {l2 = l2} {l3 = l3} {l4 = l4} {a = a} e statements more) =
    ap (λ o. behind [] (mark OpenParen l1 ∷ (name n l2 ∷ (mark CloseParen l3 ∷ (mark OpenBrace l4 ∷ a)))) (body_phrases o)) e ∙ run_statements statements _ ∙ run_bodies more
