-- A list of tokens is a prefix of task code exactly where the stack of expectations takes it.
use Rattle.std.proofs.{lemmas.Bool.Decides.{nat_tests}, Common.{◌≡◌, ⊎_elim, ℕ, Bool, true, false, cond, List, [], ◌∷◌, ◌++◌, refl, sym, ap, ◌∙◌, subst, append_assoc, arith}}
use Rattle.std.specs.Prelude.{Result, Ok, Err, Option, Some, None, codes, ◌==◌}
use Rattle.osek_values.specs.declared.{status.Status.{Status}, limits.TheConstants.{MAX_CODE_DEPTH}}
use Rattle.oil_lexer.specs.declared.token.{TokenKind.{TokenKind, TheVariants.{Name, Number, Text, Mark}}, Mark.TheVariants.{OpenBrace, CloseBrace, OpenParen, CloseParen, Comma, Semicolon, Question, Bar}, Token.{Token}}
use Rattle.oil_lexer.specs.{declared.fault.Stop.{Stop}, Tokens.{name, number, mark}, Scan.{fault_of}}
use Rattle.oil_lexer.proofs.FirstFault as first
use Rattle.oil_lexer.proofs.PhraseStacks as stacks
use Rattle.task_code.specs.declared.call.{Reference.{Reference}, Call.{Call}}
use Rattle.task_code.specs.declared.call.Call.TheVariants as call
use Rattle.task_code.specs.Services.{plain_call, object_call, mask_call, alarm_call}
use Rattle.task_code.specs.declared.tree.{Body.{Body}, BodyKind.{BodyKind}, Code.{Code}, Condition.{Condition, TheVariants.{Choice, Always}}}
use Rattle.task_code.specs.declared.words.{Service.{Service}, StatementWord.{StatementWord}}
use Rattle.task_code.specs.declared.words.Service.TheVariants as service
use Rattle.task_code.specs.declared.words.StatementWord.TheVariants as word
use Rattle.task_code.specs.{Statements.{Statements, closed, work_then, if_then, if_else_then, while_then, call_then}, Words.{body_kind, is_else, status_of, statement_word}}
use Rattle.task_code.specs.Grammar.{reference, IsMask, last_event, more_events, IsCall, plain, object, mask, set_event, alarm, shutdown, IsCondition, choice, always, IsStatements, no_more, a_work, an_if, an_if_else, a_while, AreBodies, no_body, a_body, IsSentence}
use Rattle.task_code.specs.Grammar as grammar
use Rattle.osek_values.specs.declared.{refusal.{Rule.{Rule, TheVariants.{Syntax, Code as of_code}}, CodeRule.TheVariants.{C9}}, refused.LineFault.{LineFault}}
use Rattle.task_code.specs.{Answers.{IsAnswer}, Faults.{HasTree, IsSyntaxFault, wrong_works_in}}
use Rattle.task_code.specs.Expect.{Phrase, some_statements, after_if, mask_rest, a_name, a_number, a_status, a_condition, open_paren, close_paren, open_brace, a_comma, a_semicolon, a_question, Stack, operands, statement_step, else_step, status_step, step, body_phrases, body_step, step_all, run, scan}
use Rattle.task_code.proofs.Expected.{run_bodies}

-- 1. What the stack takes is in the grammar.

-- what follows the branch of an `if`: a list of statements, or `else` and two lists
data Tail : List Token → List Token → Type 0 where
  goes_on : {next : Statements} {ts rest : List Token} → IsStatements next ts rest → Tail ts rest
  has_else : {w : List ℕ} {l l' : ℕ} {otherwise next : Statements} {a b rest : List Token} → is_else w ≡ true → IsStatements otherwise a b → IsStatements next b rest → Tail (name w l ∷ (mark OpenBrace l' ∷ a)) rest

-- the tokens begin with the phrase
abbrev IsPhrase : Phrase → List Token → List Token → Type 0
IsPhrase some_statements ts rest = (s : Statements) × IsStatements s ts rest
IsPhrase after_if ts rest = Tail ts rest
IsPhrase mask_rest ts rest = (n : List ℕ) (l : ℕ) → (m : List Reference) × IsMask m (name n l ∷ ts) rest
IsPhrase a_name ts rest = (n : List ℕ) × (l : ℕ) × (ts ≡ name n l ∷ rest)
IsPhrase a_number ts rest = (v : ℕ) × (l : ℕ) × (ts ≡ number v l ∷ rest)
IsPhrase a_status ts rest = (n : List ℕ) × (l : ℕ) × (s : Status) × (status_of n ≡ Some s) × (ts ≡ name n l ∷ rest)
IsPhrase a_condition ts rest = (c : Condition) × (t : Token) × IsCondition c t × (ts ≡ t ∷ rest)
IsPhrase open_paren ts rest = (l : ℕ) × (ts ≡ mark OpenParen l ∷ rest)
IsPhrase close_paren ts rest = (l : ℕ) × (ts ≡ mark CloseParen l ∷ rest)
IsPhrase open_brace ts rest = (l : ℕ) × (ts ≡ mark OpenBrace l ∷ rest)
IsPhrase a_comma ts rest = (l : ℕ) × (ts ≡ mark Comma l ∷ rest)
IsPhrase a_semicolon ts rest = (l : ℕ) × (ts ≡ mark Semicolon l ∷ rest)
IsPhrase a_question ts rest = (l : ℕ) × (ts ≡ mark Question l ∷ rest)

-- where nothing is expected any bodies may come
abbrev AreSomeBodies : List Token → Type 0
AreSomeBodies ts = (bodies : List Body) × AreBodies bodies ts

-- the stack's phrases, and bodies below it
abbrev ArePhrases : Stack → List Token → Type 0
ArePhrases = stacks.ArePhrases Phrase step body_step IsPhrase AreSomeBodies

-- the stack behind a first token, as the stack before it
abbrev Back : Stack → Token → Stack → List Token → Option Stack → Type 0
Back = stacks.Back Phrase step body_step IsPhrase AreSomeBodies

-- tokens put together from their fronts
two : (P : List Token → Type 0) (ts r1 r2 : List Token) (t1 t2 : Token) → ts ≡ t1 ∷ r1 → r1 ≡ t2 ∷ r2 → P (t1 ∷ (t2 ∷ r2)) → P ts
two P ts r1 r2 t1 t2 e1 e2 p = subst P (sym (e1 ∙ ap (λ (z : List Token). t1 ∷ z) e2)) p

four : (P : List Token → Type 0) (ts r1 r2 r3 r4 : List Token) (t1 t2 t3 t4 : Token) → ts ≡ t1 ∷ r1 → r1 ≡ t2 ∷ r2 → r2 ≡ t3 ∷ r3 → r3 ≡ t4 ∷ r4 → P (t1 ∷ (t2 ∷ (t3 ∷ (t4 ∷ r4)))) → P ts
four P ts r1 r2 r3 r4 t1 t2 t3 t4 e1 e2 e3 e4 p = two P ts r1 r2 t1 t2 e1 e2 (two (λ (z : List Token). P (t1 ∷ (t2 ∷ z))) r2 r3 r4 t3 t4 e3 e4 p)

-- a mask that begins at a name
mask_back : (ts b rest : List Token) → IsPhrase a_name ts b → IsPhrase mask_rest b rest → (m : List Reference) × IsMask m ts rest
mask_back ts b rest (n, l, e) more =
    let (m, is) = more n l in
    (m, subst (λ (z : List Token). IsMask m z rest) (sym e) is)

call_back : (s : Service) (tail : Stack) (ts : List Token) → ArePhrases (operands s ++ tail) ts → (rest : List Token) × ((c : Call) × IsCall s c ts rest) × ArePhrases tail rest
call_back (service.Plain s) tail ts (rest, (l, e), more) = (rest, (plain_call s, subst (λ (z : List Token). IsCall (service.Plain s) (plain_call s) z rest) (sym e) plain), more)
call_back (service.Object s) tail ts (r1, (n, l, e1), (rest, (l2, e2), more)) =
    let made : Call = object_call s (reference n l) in
    (rest, (made, two (λ (z : List Token). IsCall (service.Object s) made z rest) ts r1 rest _ _ e1 e2 object), more)
call_back (service.Mask s) tail ts (b, n, (rest, m, more)) =
    let (events, is) = mask_back ts b rest n m in
    (rest, (mask_call s events, mask is), more)
call_back service.SetEvent tail ts (r1, (n, l, e1), (r2, (l2, e2), (b, n', (rest, m, more)))) =
    let (events, is) = mask_back r2 b rest n' m in
    let made : Call = call.SetEvent (reference n l) events in
    (rest, (made, two (λ (z : List Token). IsCall service.SetEvent made z rest) ts r1 r2 _ _ e1 e2 (set_event is)), more)
call_back (service.Alarm s) tail ts (r1, (n, l, e1), (r2, (l2, e2), (r3, (x, l3, e3), (r4, (l4, e4), (r5, (y, l5, e5), (rest, (l6, e6), more)))))) =
    let made : Call = alarm_call s (reference n l) x y in
    (rest, (made, four (λ (z : List Token). IsCall (service.Alarm s) made z rest) ts r1 r2 r3 r4 _ _ _ _ e1 e2 e3 e4 (two (λ (z : List Token). IsCall (service.Alarm s) made (name n l ∷ (mark Comma l2 ∷ (number x l3 ∷ (mark Comma l4 ∷ z)))) rest) r4 r5 rest _ _ e5 e6 alarm)), more)
call_back service.ShutdownOs tail ts (r1, (n, l, s, is, e1), (rest, (l2, e2), more)) =
    (rest, (call.ShutdownOs s, two (λ (z : List Token). IsCall service.ShutdownOs (call.ShutdownOs s) z rest) ts r1 rest _ _ e1 e2 (shutdown is)), more)

if_back : (n : List ℕ) (l l1 l2 l3 l4 : ℕ) (branch : Statements) (a b rest : List Token) → statement_word n ≡ Some word.If → IsStatements branch a b → Tail b rest → (s : Statements) × IsStatements s (name n l ∷ (mark OpenParen l1 ∷ (mark Question l2 ∷ (mark CloseParen l3 ∷ (mark OpenBrace l4 ∷ a))))) rest
if_back n l l1 l2 l3 l4 branch a b rest e first (goes_on {next = next} is) = (if_then l branch next, an_if e first is)
if_back n l l1 l2 l3 l4 branch a b rest e first (has_else {otherwise = otherwise} {next = next} is second more) = (if_else_then l branch otherwise next, an_if_else e first is second more)

statement_back : (n : List ℕ) (l : ℕ) (stack : Stack) (ts : List Token) (w : Option StatementWord) → statement_word n ≡ w → Back (some_statements ∷ stack) (name n l) stack ts (statement_step w)
statement_back n l stack ts None e = tt
statement_back n l stack ts (Some word.Work) e = λ (b, (v, l1, e1), (c, (l2, e2), (rest, (next, is), more))).
    (rest, (work_then l v next, two (λ (z : List Token). IsStatements (work_then l v next) (name n l ∷ z) rest) ts b c _ _ e1 e2 (a_work e is)), more)
statement_back n l stack ts (Some word.If) e = λ (r1, (l1, e1), (r2, (l2, e2), (r3, (l3, e3), (r4, (l4, e4), (b, (branch, first), (rest, tail, more)))))).
    let (s, is) = if_back n l l1 l2 l3 l4 branch r4 b rest e first tail in
    (rest, (s, four (λ (z : List Token). IsStatements s (name n l ∷ z) rest) ts r1 r2 r3 r4 _ _ _ _ e1 e2 e3 e4 is), more)
statement_back n l stack ts (Some word.While) e = λ (r1, (l1, e1), (r2, (c, t, is, e2), (r3, (l3, e3), (r4, (l4, e4), (b, (body, inner), (rest, (next, s), more)))))).
    (rest, (while_then l c body next, four (λ (z : List Token). IsStatements (while_then l c body next) (name n l ∷ z) rest) ts r1 r2 r3 r4 _ _ _ _ e1 e2 e3 e4 (a_while e is inner s)), more)
statement_back n l stack ts (Some (word.Service s)) e = λ (r1, (l1, e1), others).
    let regrouped : ArePhrases (operands s ++ (a_semicolon ∷ (some_statements ∷ stack))) r1 = subst (λ (x : Stack). ArePhrases x r1) (append_assoc (operands s) (a_semicolon ∷ (some_statements ∷ [])) stack) others in
    let (b, (c, is), (r3, (l2, e2), (rest, (next, list), more))) = call_back s (a_semicolon ∷ (some_statements ∷ stack)) r1 regrouped in
    (rest, (call_then l c next, subst (λ (z : List Token). IsStatements (call_then l c next) (name n l ∷ z) rest) (sym e1) (grammar.a_call e (subst (λ (z : List Token). IsCall s c r1 z) e2 is) list)), more)

tail_back : (n : List ℕ) (l : ℕ) (stack : Stack) (ts : List Token) (phrases : Option Stack) → Back (some_statements ∷ stack) (name n l) stack ts phrases → Back (after_if ∷ stack) (name n l) stack ts phrases
tail_back n l stack ts None b = tt
tail_back n l stack ts (Some phrases) b = λ h. let (rest, (s, is), more) = b h in (rest, goes_on is, more)

else_back : (n : List ℕ) (l : ℕ) (stack : Stack) (ts : List Token) (b : Bool) → is_else n ≡ b → Back (after_if ∷ stack) (name n l) stack ts (else_step b (statement_word n))
else_back n l stack ts true e = λ (a, (l1, e1), (b, (second, s), (rest, (next, is), more))).
    (rest, subst (λ (z : List Token). Tail (name n l ∷ z) rest) (sym e1) (has_else e s is), more)
else_back n l stack ts false e = tail_back n l stack ts (statement_step (statement_word n)) (statement_back n l stack ts (statement_word n) refl)

status_back : (n : List ℕ) (l : ℕ) (stack : Stack) (ts : List Token) (s : Option Status) → status_of n ≡ s
    → Back (a_status ∷ stack) (name n l) stack ts (status_step s)
status_back n l stack ts None e = tt
status_back n l stack ts (Some s) e = λ h. (ts, (n, l, s, e, refl), h)

one_back : (v line : ℕ) (stack : Stack) (ts : List Token) (b : Bool) → (v == 1) ≡ b
    → Back (a_condition ∷ stack) (number v line) stack ts (cond b (Some []) None)
one_back v line stack ts true e = λ h.
    let one : v ≡ 1 = grind (arith, nat_tests) in
    (ts, (Always, number v line, subst (λ (x : ℕ). IsCondition Always (number x line)) (sym one) always, refl), h)
one_back v line stack ts false e = tt

back : (p : Phrase) (kind : TokenKind) (line : ℕ) (stack : Stack) (ts : List Token) → Back (p ∷ stack) (record { kind = kind; line = line }) stack ts (step p kind)
back some_statements (Name n) line stack ts = statement_back n line stack ts (statement_word n) refl
back some_statements (Mark CloseBrace) line stack ts = λ h. (ts, (closed line, no_more), h)
back after_if (Name n) line stack ts = else_back n line stack ts (is_else n) refl
back after_if (Mark CloseBrace) line stack ts = λ h. (ts, goes_on no_more, h)
back mask_rest (Mark Bar) line stack ts = λ (b, n', (rest, m, more)).
    let (events, is) = mask_back ts b rest n' m in
    (rest, (λ n l. (reference n l ∷ events, more_events is)), more)
back mask_rest (Mark CloseParen) line stack ts = λ h. (ts, (λ n l. (reference n l ∷ [], last_event)), h)
back a_name (Name n) line stack ts = λ h. (ts, (n, line, refl), h)
back a_number (Number v) line stack ts = λ h. (ts, (v, line, refl), h)
back a_status (Name n) line stack ts = status_back n line stack ts (status_of n) refl
back a_condition (Mark Question) line stack ts = λ h. (ts, (Choice, mark Question line, choice, refl), h)
back a_condition (Number v) line stack ts = one_back v line stack ts (v == 1) refl
back open_paren (Mark OpenParen) line stack ts = λ h. (ts, (line, refl), h)
back close_paren (Mark CloseParen) line stack ts = λ h. (ts, (line, refl), h)
back open_brace (Mark OpenBrace) line stack ts = λ h. (ts, (line, refl), h)
back a_comma (Mark Comma) line stack ts = λ h. (ts, (line, refl), h)
back a_semicolon (Mark Semicolon) line stack ts = λ h. (ts, (line, refl), h)
back a_question (Mark Question) line stack ts = λ h. (ts, (line, refl), h)
back _ _ line stack ts = tt

-- bodies

body_back : (n : List ℕ) (l : ℕ) (ts : List Token) (k : Option BodyKind) → body_kind n ≡ k → Back [] (name n l) [] ts (body_phrases k)
body_back n l ts None e = tt
body_back n l ts (Some kind) e = λ (r1, (l1, e1), (r2, (m, l2, e2), (r3, (l3, e3), (r4, (l4, e4), (b, (statements, s), (bodies, more)))))).
    let all : List Body = record { kind = kind; line = l; owner = reference m l2; statements = statements } ∷ bodies in
    (all, four (λ (z : List Token). AreBodies all (name n l ∷ z)) ts r1 r2 r3 r4 _ _ _ _ e1 e2 e3 e4 (a_body e s more))

bodies_back : (kind : TokenKind) (l : ℕ) (ts : List Token) → Back [] (record { kind = kind; line = l }) [] ts (body_step kind)
bodies_back (Name n) l ts = body_back n l ts (body_kind n) refl
bodies_back (Number n) l ts = tt
bodies_back (Text n) l ts = tt
bodies_back (Mark n) l ts = tt

-- what the stack takes to its end is the stack's phrases
taken : (ts : List Token) (stack : Stack) → run stack ts ≡ Some [] → ArePhrases stack ts
taken = stacks.taken Phrase step body_step IsPhrase AreSomeBodies back bodies_back ([], no_body)

-- 2. Whatever the stack is, something completes it.

abbrev least : Phrase → List Token → List Token
least some_statements more = mark CloseBrace 0 ∷ more
least after_if more = mark CloseBrace 0 ∷ more
least mask_rest more = mark CloseParen 0 ∷ more
least a_name more = name (codes "e") 0 ∷ more
least a_number more = number 0 0 ∷ more
least a_status more = name (codes "E_OK") 0 ∷ more
least a_condition more = mark Question 0 ∷ more
least open_paren more = mark OpenParen 0 ∷ more
least close_paren more = mark CloseParen 0 ∷ more
least open_brace more = mark OpenBrace 0 ∷ more
least a_comma more = mark Comma 0 ∷ more
least a_semicolon more = mark Semicolon 0 ∷ more
least a_question more = mark Question 0 ∷ more

status_taken : (stack : Stack) (more : List Token) → run (a_status ∷ stack) (least a_status more) ≡ run stack more
unfolding status_of
status_taken stack more = refl

least_taken : (p : Phrase) (stack : Stack) (more : List Token) → run (p ∷ stack) (least p more) ≡ run stack more
least_taken some_statements stack more = refl
least_taken after_if stack more = refl
least_taken mask_rest stack more = refl
least_taken a_name stack more = refl
least_taken a_number stack more = refl
least_taken a_status stack more = status_taken stack more
least_taken a_condition stack more = refl
least_taken open_paren stack more = refl
least_taken close_paren stack more = refl
least_taken open_brace stack more = refl
least_taken a_comma stack more = refl
least_taken a_semicolon stack more = refl
least_taken a_question stack more = refl

completion : (stack : Stack) → (more : List Token) × (run stack more ≡ Some [])
completion = stacks.completion Phrase step body_step least least_taken

-- 3. The scan gives the first fault.

complete : (tokens : List Token) (code : Code) → IsSentence tokens code → run [] tokens ≡ Some []
complete tokens code is = run_bodies is

right : (tokens : List Token) → run [] tokens ≡ Some [] → (code : Code) × IsSentence tokens code
right tokens e = let (bodies, are) = taken tokens [] e in (record { bodies = bodies }, are)

pub stop_fault : (tokens : List Token) (stop : Stop) → scan 0 [] tokens ≡ Some stop → IsSyntaxFault tokens (fault_of stop tokens).rule (fault_of stop tokens).line
stop_fault = first.stop_fault Code IsSentence MAX_CODE_DEPTH Phrase step_all [] complete right completion

pub has_tree : (tokens : List Token) (code : Code) → IsSentence tokens code → scan 0 [] tokens ≡ None → HasTree tokens code
has_tree = first.has_tree Code IsSentence MAX_CODE_DEPTH Phrase step_all [] complete right completion

-- a tree without a wrong `work` is code, another has a first one
by_works : (tokens : List Token) (code : Code) (lines : List ℕ) → HasTree tokens code → wrong_works_in code.bodies ≡ lines → (answer : Result Code (LineFault Rule)) × IsAnswer answer tokens
by_works tokens code [] has e = (Ok code, record { tree = has; works = e })
by_works tokens code (line ∷ others) has e = (Err (record { line = line; rule = of_code C9 }), record { code = code; tree = has; others = others; works = e })

pub some_answer : (tokens : List Token) → (answer : Result Code (LineFault Rule)) × IsAnswer answer tokens
some_answer tokens =
    ⊎_elim
    (λ x. by_works tokens x.0 (wrong_works_in x.0.bodies) x.1 refl)
    (λ x. (Err (record { line = x.0.line; rule = Syntax x.0.rule }), x.1))
    (first.some_answer Code IsSentence MAX_CODE_DEPTH Phrase step_all [] complete right completion tokens)
