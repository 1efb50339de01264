-- A list of tokens has at most one code or first fault.
use Rattle.std.proofs.Common.{◌≡◌, ℕ, true, false, List, [], ◌∷◌, refl, sym, ap, ◌∙◌, subst}
use Rattle.std.specs.Prelude.{Some, Result, Ok, Err}
use Rattle.osek_values.specs.declared.refusal.{Rule.{Rule, TheVariants.{Lex, Syntax, Oil, Code as of_code}}, SyntaxRule.{SyntaxRule}, CodeRule.TheVariants.{C1, C2, C3, C4, C6, C7, C8, C9, C10}}
use Rattle.osek_values.specs.declared.limits.TheConstants.{MAX_CODE_DEPTH}
use Rattle.oil_lexer.specs.{declared.token.{Mark.TheVariants.{Semicolon}, Token.{Token}}, Tokens.{name, mark}}
use Rattle.oil_lexer.proofs.OneFault.{same_fault, no_fault}
use Rattle.task_code.specs.declared.call.{Reference.{Reference}, Call.{Call}}
use Rattle.task_code.specs.declared.call.Call.TheVariants as call
use Rattle.task_code.specs.declared.tree.{Body.{Body}, Code.{Code}, Condition.{Condition}}
use Rattle.osek_values.specs.declared.refused.LineFault.{LineFault}
use Rattle.task_code.specs.declared.words.{Service.{Service}, StatementWord.{StatementWord}}
use Rattle.task_code.specs.declared.words.StatementWord.TheVariants as word
use Rattle.task_code.specs.{Statements.{Statements, work_then, if_then, if_else_then, while_then, call_then}, Words.{is_else, statement_word}}
use Rattle.task_code.specs.Grammar.{reference, IsMask, last_event, more_events, IsCall, plain, object, mask, set_event, alarm, shutdown, IsCondition, choice, always, IsStatements, no_more, a_work, an_if, an_if_else, a_while, AreBodies, no_body, a_body, IsSentence}
use Rattle.task_code.specs.Services.{mask_call}
use Rattle.task_code.specs.Grammar as grammar
use Rattle.task_code.specs.{Faults.{IsSyntaxFault, HasCode, HasWrongWork, IsFirstFault, wrong_works_in}, Answers.{IsAnswer}}
use Rattle.task_code.proofs.Elses.{else_is_no_statement}

same_mask : {m m' : List Reference} {a b c : List Token} → IsMask m a b → IsMask m' a c → (m ≡ m') × (b ≡ c)
same_mask last_event last_event = (refl, refl)
same_mask (more_events {n = n} {l = l} more) (more_events more') =
    let s = same_mask more more' in
    ((λ i. reference n l ∷ s.0 i), s.1)

some_same : {A : Type 0} {x y : A} → Some x ≡ Some y → x ≡ y
some_same e = cc

same_call : {s : Service} {c c' : Call} {ts rest rest' : List Token} → IsCall s c ts rest → IsCall s c' ts rest' → (c ≡ c') × (rest ≡ rest')
same_call plain plain = (refl, refl)
same_call object object = (refl, refl)
same_call (mask {s = s} m) (mask m') = let r = same_mask m m' in (ap (mask_call s) r.0, r.1)
same_call (set_event {n = n} {l = l} m) (set_event m') = let r = same_mask m m' in ((λ i. call.SetEvent (reference n l) (r.0 i)), r.1)
same_call alarm alarm = (refl, refl)
same_call (shutdown e) (shutdown e') = let s = some_same (sym e ∙ e') in ((λ i. call.ShutdownOs (s i)), refl)

same_condition : {c c' : Condition} {t : Token} → IsCondition c t → IsCondition c' t → c ≡ c'
same_condition choice choice = refl
same_condition always always = refl

-- the tail of equal lists
tail_same : {t t' : Token} {a b : List Token} → t ∷ a ≡ t' ∷ b → a ≡ b
tail_same e = cc

two_tails_same : {t t' u u' : Token} {a b : List Token} → t ∷ (u ∷ a) ≡ t' ∷ (u' ∷ b) → a ≡ b
two_tails_same e = cc

-- a list of statements doesn't begin with `else`
not_else : {s : Statements} {n : List ℕ} {l : ℕ} {ts rest : List Token} → IsStatements s (name n l ∷ ts) rest → is_else n ≡ false
not_else {n = n} (a_work e more) = else_is_no_statement n _ e
not_else {n = n} (an_if e first next) = else_is_no_statement n _ e
not_else {n = n} (an_if_else e first is second next) = else_is_no_statement n _ e
not_else {n = n} (a_while e c body next) = else_is_no_statement n _ e
not_else {n = n} (grammar.a_call e c next) = else_is_no_statement n _ e

one_ending : {s : Statements} {b ts rest : List Token} {n : List ℕ} {l : ℕ} → IsStatements s b rest → b ≡ name n l ∷ ts → is_else n ≡ true → ⊥
one_ending {s = s} {rest = rest} is e begins = let other = not_else (subst (λ (z : List Token). IsStatements s z rest) e is) in absurd cc

apart : {x y : StatementWord} (n : List ℕ) → statement_word n ≡ Some x → statement_word n ≡ Some y → x ≡ y
apart n e e' = some_same (sym e ∙ e')

if_while : word.If ≡ word.While → ⊥
if_while e = absurd cc

if_service : {s : Service} → word.If ≡ word.Service s → ⊥
if_service e = absurd cc

while_service : {s : Service} → word.While ≡ word.Service s → ⊥
while_service e = absurd cc

service_same : {s s' : Service} → word.Service s ≡ word.Service s' → s ≡ s'
service_same e = cc

-- a list of statements that begins at equal tokens
moved : {s : Statements} {a a' c : List Token} → a ≡ a' → IsStatements s a' c → IsStatements s a c
moved {s = s} {c = c} e is = subst (λ (z : List Token). IsStatements s z c) (sym e) is

same_statements : {s s' : Statements} {a b c : List Token} → IsStatements s a b → IsStatements s' a c → (s ≡ s') × (b ≡ c)
same_statements no_more no_more = (refl, refl)
same_statements (a_work {l = l} {v = v} e more) (a_work e' more') = let r = same_statements more more' in ((λ i. work_then l v (r.0 i)), r.1)
same_statements (an_if {l = l} e first next) (an_if e' first' next') =
    let f = same_statements first first' in
    let n = same_statements next (moved f.1 next') in
    ((λ i. if_then l (f.0 i) (n.0 i)), n.1)
same_statements (an_if e first next) (an_if_else e' first' is second next') = absurd (one_ending next (same_statements first first').1 is)
same_statements (an_if e first next) (a_while e' c body next') = absurd (if_while (apart _ e e'))
same_statements (an_if e first next) (grammar.a_call e' c next') = absurd (if_service (apart _ e e'))
same_statements (an_if_else e first is second next) (an_if e' first' next') = absurd (one_ending next' (sym (same_statements first first').1) is)
same_statements (an_if_else {l = l} e first is second next) (an_if_else e' first' is' second' next') =
    let f = same_statements first first' in
    let o = same_statements second (moved (two_tails_same f.1) second') in
    let n = same_statements next (moved o.1 next') in
    ((λ i. if_else_then l (f.0 i) (o.0 i) (n.0 i)), n.1)
same_statements (an_if_else e first is second next) (a_while e' c body next') = absurd (if_while (apart _ e e'))
same_statements (an_if_else e first is second next) (grammar.a_call e' c next') = absurd (if_service (apart _ e e'))
same_statements (a_while e c body next) (an_if e' first next') = absurd (if_while (apart _ e' e))
same_statements (a_while e c body next) (an_if_else e' first is second next') = absurd (if_while (apart _ e' e))
same_statements (a_while {l = l} e c body next) (a_while e' c' body' next') =
    let k = same_condition c c' in
    let f = same_statements body body' in
    let n = same_statements next (moved f.1 next') in
    ((λ i. while_then l (k i) (f.0 i) (n.0 i)), n.1)
same_statements (a_while e c body next) (grammar.a_call e' c' next') = absurd (while_service (apart _ e e'))
same_statements (grammar.a_call e c next) (an_if e' first next') = absurd (if_service (apart _ e' e))
same_statements (grammar.a_call e c next) (an_if_else e' first is second next') = absurd (if_service (apart _ e' e))
same_statements (grammar.a_call e c next) (a_while e' c' body next') = absurd (while_service (apart _ e' e))
same_statements (grammar.a_call {l = l} e c next) (grammar.a_call {l2 = l2} {call = made} {a = a} {b = b} e' c' next') =
    let f = same_call c (subst (λ (x : Service). IsCall x made a (mark Semicolon l2 ∷ b)) (sym (service_same (apart _ e e'))) c') in
    let n = same_statements next (moved (tail_same f.1) next') in
    ((λ i. call_then l (f.0 i) (n.0 i)), n.1)

bodies_behind : {y : List Body} {a b : List Token} → a ≡ b → AreBodies y b → AreBodies y a
bodies_behind {y = y} e is = subst (λ (z : List Token). AreBodies y z) (sym e) is

same_bodies : {x y : List Body} {a : List Token} → AreBodies x a → AreBodies y a → x ≡ y
same_bodies no_body no_body = refl
same_bodies (a_body {n = n} {l = l} {l2 = l2} is s more) (a_body is' s' more') =
    let k = some_same (sym is ∙ is') in
    let f = same_statements s s' in
    let m = same_bodies more (bodies_behind f.1 more') in
    (λ i. record { kind = k i; line = l; owner = reference n l2; statements = f.0 i } ∷ m i)

same_code : (tokens : List Token) (x y : Code) → IsSentence tokens x → IsSentence tokens y → x ≡ y
same_code tokens x y a b = λ i. record { bodies = same_bodies a b i }

first_of_same : {line line' : ℕ} {lines others others' : List ℕ} → lines ≡ line ∷ others → lines ≡ line' ∷ others' → line ≡ line'
first_of_same e e' = cc

-- code and a first fault exclude each other
code_or_fault : (tokens : List Token) (code : Code) (rule : Rule) (line : ℕ) → HasCode tokens code → IsFirstFault tokens rule line → ⊥
code_or_fault tokens code (Syntax rule) line h f = no_fault Code IsSentence MAX_CODE_DEPTH tokens code rule line h.tree f
code_or_fault tokens code (of_code C9) line h f =
    let same = same_code tokens code f.code h.tree.sentence f.tree.sentence in
    let none : wrong_works_in f.code.bodies ≡ [] = ap (λ (c : Code). wrong_works_in c.bodies) (sym same) ∙ h.works in
    let some = f.works in
    absurd cc
code_or_fault tokens code (of_code C1) line h f = f
code_or_fault tokens code (of_code C2) line h f = f
code_or_fault tokens code (of_code C3) line h f = f
code_or_fault tokens code (of_code C4) line h f = f
code_or_fault tokens code (of_code C6) line h f = f
code_or_fault tokens code (of_code C7) line h f = f
code_or_fault tokens code (of_code C8) line h f = f
code_or_fault tokens code (of_code C10) line h f = f
code_or_fault tokens code (Lex rule) line h f = f
code_or_fault tokens code (Oil rule) line h f = f

-- two wrong works
works_same : (tokens : List Token) (line line' : ℕ) → HasWrongWork tokens line → HasWrongWork tokens line' → line ≡ line'
works_same tokens line line' f g =
    let same = same_code tokens f.code g.code f.tree.sentence g.tree.sentence in
    first_of_same (ap (λ (c : Code). wrong_works_in c.bodies) (sym same) ∙ f.works) g.works

-- a first fault is the only one
abbrev Same : Rule → ℕ → Rule → ℕ → Type 0
Same rule line rule' line' = (rule ≡ rule') × (line ≡ line')

same_as_syntax : (tokens : List Token) (rule : SyntaxRule) (rule' : Rule) (line line' : ℕ) → IsSyntaxFault tokens rule line → IsFirstFault tokens rule' line' → Same (Syntax rule) line rule' line'
same_as_syntax tokens rule (Syntax rule') line line' f g = let s = same_fault Code IsSentence MAX_CODE_DEPTH tokens rule rule' line line' f g in (ap Syntax s.0, s.1)
same_as_syntax tokens rule (of_code C9) line line' f g = absurd (no_fault Code IsSentence MAX_CODE_DEPTH tokens g.code rule line g.tree f)
same_as_syntax tokens rule (of_code C1) line line' f g = absurd g
same_as_syntax tokens rule (of_code C2) line line' f g = absurd g
same_as_syntax tokens rule (of_code C3) line line' f g = absurd g
same_as_syntax tokens rule (of_code C4) line line' f g = absurd g
same_as_syntax tokens rule (of_code C6) line line' f g = absurd g
same_as_syntax tokens rule (of_code C7) line line' f g = absurd g
same_as_syntax tokens rule (of_code C8) line line' f g = absurd g
same_as_syntax tokens rule (of_code C10) line line' f g = absurd g
same_as_syntax tokens rule (Lex rule') line line' f g = absurd g
same_as_syntax tokens rule (Oil rule') line line' f g = absurd g

same_as_work : (tokens : List Token) (rule' : Rule) (line line' : ℕ) → HasWrongWork tokens line → IsFirstFault tokens rule' line' → Same (of_code C9) line rule' line'
same_as_work tokens (Syntax rule') line line' f g = absurd (no_fault Code IsSentence MAX_CODE_DEPTH tokens f.code rule' line' f.tree g)
same_as_work tokens (of_code C9) line line' f g = (refl, works_same tokens line line' f g)
same_as_work tokens (of_code C1) line line' f g = absurd g
same_as_work tokens (of_code C2) line line' f g = absurd g
same_as_work tokens (of_code C3) line line' f g = absurd g
same_as_work tokens (of_code C4) line line' f g = absurd g
same_as_work tokens (of_code C6) line line' f g = absurd g
same_as_work tokens (of_code C7) line line' f g = absurd g
same_as_work tokens (of_code C8) line line' f g = absurd g
same_as_work tokens (of_code C10) line line' f g = absurd g
same_as_work tokens (Lex rule') line line' f g = absurd g
same_as_work tokens (Oil rule') line line' f g = absurd g

same_first : (tokens : List Token) (rule rule' : Rule) (line line' : ℕ) → IsFirstFault tokens rule line → IsFirstFault tokens rule' line' → Same rule line rule' line'
same_first tokens (Syntax rule) rule' line line' f g = same_as_syntax tokens rule rule' line line' f g
same_first tokens (of_code C9) rule' line line' f g = same_as_work tokens rule' line line' f g
same_first tokens (of_code C1) rule' line line' f g = absurd f
same_first tokens (of_code C2) rule' line line' f g = absurd f
same_first tokens (of_code C3) rule' line line' f g = absurd f
same_first tokens (of_code C4) rule' line line' f g = absurd f
same_first tokens (of_code C6) rule' line line' f g = absurd f
same_first tokens (of_code C7) rule' line line' f g = absurd f
same_first tokens (of_code C8) rule' line line' f g = absurd f
same_first tokens (of_code C10) rule' line line' f g = absurd f
same_first tokens (Lex rule) rule' line line' f g = absurd f
same_first tokens (Oil rule) rule' line line' f g = absurd f

pub one_answer : (tokens : List Token) (a b : Result Code (LineFault Rule)) → IsAnswer a tokens → IsAnswer b tokens → a ≡ b
one_answer tokens (Ok x) (Ok y) a b = ap Ok (same_code tokens x y a.tree.sentence b.tree.sentence)
one_answer tokens (Ok x) (Err f) a b = absurd (code_or_fault tokens x f.rule f.line a b)
one_answer tokens (Err f) (Ok y) a b = absurd (code_or_fault tokens y f.rule f.line b a)
one_answer tokens (Err f) (Err g) a b =
    let s = same_first tokens f.rule g.rule f.line g.line a b in
    (λ i. Err (record { line = s.1 i; rule = s.0 i }))
