-- What the scan does at a phrase that was read.
use Rattle.std.proofs.Common.{◌≡◌, ℕ, ◌+◌, ◌<◌, true, List, ◌∷◌, ◌++◌, length, refl, ap, arith}
use Rattle.std.specs.Prelude.{Option}
use Rattle.osek_values.specs.declared.limits.TheConstants.{MAX_CODE_DEPTH}
use Rattle.oil_lexer.specs.{declared.{token.{Mark.TheVariants.{OpenBrace, CloseParen}, Token.{Token}}, fault.Stop.{Stop}}, Tokens.{name, mark}}
use Rattle.oil_lexer.specs.Scan as scans
use Rattle.oil_lexer.specs.Scan.{onto}
use Rattle.oil_lexer.proofs.Braces.{shallow}
use Rattle.task_code.specs.declared.{call.{Reference.{Reference}, Call.{Call}}, tree.Condition.{Condition}, words.{Service.{Service}, StatementWord.{StatementWord}}}
use Rattle.task_code.specs.{Statements.{Statements}, Words.{is_else, statement_word}}
use Rattle.task_code.specs.Grammar.{IsMask, last_event, more_events, IsCall, plain, object, mask, set_event, alarm, shutdown, IsCondition, choice, always, IsStatements, no_more, a_work, an_if, an_if_else, a_while}
use Rattle.task_code.specs.Grammar as grammar
use Rattle.task_code.specs.Expect.{Phrase, some_statements, after_if, mask_rest, a_name, a_condition, open_brace, close_paren, Stack, operands, statement_step, else_step, status_step, step_all, scan}

-- how the scan goes on behind a token that opens no brace too deep
abbrev at_token : ℕ → Token → List Token → Option Stack → Option Stop
at_token d t ts next = scans.at_token Phrase step_all MAX_CODE_DEPTH d t next (λ n. scan d n ts)

takes_mask : {m : List Reference} {ts rest : List Token} → IsMask m ts rest → (d : ℕ) (stack : Stack) → scan d (a_name ∷ (mask_rest ∷ stack)) ts ≡ scan d stack rest
takes_mask last_event d stack = refl
takes_mask (more_events more) d stack = takes_mask more d stack

pub takes_call : {s : Service} {c : Call} {ts rest : List Token} → IsCall s c ts rest → (d : ℕ) (tail stack : Stack) → scan d ((operands s ++ tail) ++ stack) ts ≡ scan d (tail ++ stack) rest
takes_call plain d tail stack = refl
takes_call object d tail stack = refl
takes_call (mask m) d tail stack = takes_mask m d (tail ++ stack)
takes_call (set_event m) d tail stack = takes_mask m d (tail ++ stack)
takes_call alarm d tail stack = refl
takes_call (shutdown {n = n} {l = l} {l' = l'} {rest = rest} e) d tail stack = ap (λ o. at_token d (name n l) (mark CloseParen l' ∷ rest) (onto (close_paren ∷ (tail ++ stack)) (status_step o))) e

pub takes_condition : {c : Condition} {t : Token} → IsCondition c t → (d : ℕ) (stack : Stack) (ts : List Token) → scan d (a_condition ∷ stack) (t ∷ ts) ≡ scan d stack ts
takes_condition choice d stack ts = refl
takes_condition always d stack ts = refl

-- at the first word of a statement
pub takes_word : (d line : ℕ) (w : List ℕ) (o : Option StatementWord) (ts : List Token) (stack : Stack) → statement_word w ≡ o → scan d (some_statements ∷ stack) (name w line ∷ ts) ≡ at_token d (name w line) ts (onto stack (statement_step o))
takes_word d line w o ts stack e = ap (λ x. at_token d (name w line) ts (onto stack (statement_step x))) e

-- at an `else`
pub takes_else : (d line : ℕ) (w : List ℕ) (ts : List Token) (stack : Stack) → is_else w ≡ true → scan d (after_if ∷ stack) (name w line ∷ ts) ≡ scan d (open_brace ∷ (some_statements ∷ (some_statements ∷ stack))) ts
takes_else d line w ts stack e = ap (λ b. at_token d (name w line) ts (onto stack (else_step b (statement_word w)))) e

-- a brace within the limit, and one too deep
pub takes_open : (d l : ℕ) (stack : Stack) (ts : List Token) → d < 32 → scan d (open_brace ∷ stack) (mark OpenBrace l ∷ ts) ≡ scan (d + 1) stack ts
takes_open d l stack ts h = shallow 32 d _ _ h

-- each phrase takes tokens
shorter_mask : {m : List Reference} {ts rest : List Token} → IsMask m ts rest → length rest < length ts
shorter_mask last_event = omega arith
shorter_mask (more_events more) = omega (arith, shorter_mask more)

pub shorter_call : {s : Service} {c : Call} {ts rest : List Token} → IsCall s c ts rest → length rest < length ts
shorter_call plain = omega arith
shorter_call object = omega arith
shorter_call (mask m) = shorter_mask m
shorter_call (set_event m) = omega (arith, shorter_mask m)
shorter_call alarm = omega arith
shorter_call (shutdown e) = omega arith

pub shorter_statements : {s : Statements} {ts rest : List Token} → IsStatements s ts rest → length rest < length ts
shorter_statements no_more = omega arith
shorter_statements (a_work e more) = omega (arith, shorter_statements more)
shorter_statements (an_if e first next) = omega (arith, shorter_statements first, shorter_statements next)
shorter_statements (an_if_else e first is second next) = omega (arith, shorter_statements first, shorter_statements second, shorter_statements next)
shorter_statements (a_while e c body next) = omega (arith, shorter_statements body, shorter_statements next)
shorter_statements (grammar.a_call e c next) = omega (arith, shorter_call c, shorter_statements next)
