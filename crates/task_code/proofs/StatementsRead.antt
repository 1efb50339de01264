-- Statements that were read.
use Rattle.std.proofs.Common.{◌≡◌, ℕ, ◌+◌, ◌-◌, ◌<◌, ◌≤◌, true, false, List, [], ◌∷◌, ◌++◌, length, refl, sym, ap, ◌∙◌, subst, arith}
use Rattle.std.specs.Prelude.{Some, None, max}
use Rattle.oil_lexer.specs.declared.token.{TokenKind.{TokenKind, TheVariants.{Name, Number, Text, Mark}}, Mark.{Mark as AMark, TheVariants.{OpenBrace, CloseBrace, OpenParen, CloseParen, Semicolon, Question}}, Token.{Token}}
use Rattle.oil_lexer.specs.{declared.fault.Stop.{Stop, TheVariants.{NotAllowed}}, Tokens.{name, number, mark, is_open}}
use Rattle.oil_lexer.proofs.Braces.{open_kind, front_is}
use Rattle.task_code.specs.declared.{call.Call.{Call as ACall}, tree.{Condition.{Condition}, Statement.{Statement, TheVariants.{Work, If, While, Call}}}}
use Rattle.task_code.specs.declared.words.{Service.{Service}, StatementWord.{StatementWord}}
use Rattle.task_code.specs.declared.words.StatementWord.TheVariants as word
use Rattle.task_code.specs.{Statements.{Statements, closed, work_then, if_then, if_else_then, while_then, call_then}, StatementLists.{statement_before, list_before, list_of}}
use Rattle.task_code.specs.{Fit.{depth}, Words.{is_else, statement_word}, Grammar.{IsCall, IsCondition, IsStatements, no_more, a_work, an_if, an_if_else, a_while}}
use Rattle.task_code.specs.Grammar as grammar
use Rattle.task_code.specs.Expect.{some_statements, after_if, a_semicolon, close_paren, open_brace, Stack, statement_phrases, scan}
use Rattle.task_code.specs.Phrases.{StopsIn, block_phrases, IsWithin, ReadsRest, ReadsStatement, ReadsStatements, ReadsBlock}
use Rattle.task_code.proofs.Scanned.{takes_call, takes_condition, takes_word, takes_else, takes_open, shorter_call, shorter_statements}

-- the limit of depth behind each kind of statement

within_one : (d a n : ℕ) → a + d + 1 ≤ 32 → n + d ≤ 32 → max (a + 1) n + d ≤ 32
within_one d a n h k = omega (arith, h, k)

within_two : (d a b n : ℕ) → a + d + 1 ≤ 32 → b + d + 1 ≤ 32 → n + d ≤ 32 → max (max (a + 1) (b + 1)) n + d ≤ 32
within_two d a b n h h' k = omega (arith, h, h', k)

pub reads_work : (d line v l l' : ℕ) (tokens r1 rest : List Token) → tokens ≡ number v l ∷ r1 → r1 ≡ mark Semicolon l' ∷ rest → ReadsRest word.Work d line tokens (Work line v) rest
reads_work d line v l l' tokens r1 rest e1 e2 =
    let prefix : tokens ≡ number v l ∷ (mark Semicolon l' ∷ rest) = e1 ∙ ap (λ (z : List Token). number v l ∷ z) e2 in
    record {
      joins = λ w next last e is. subst (λ (z : List Token). IsStatements (work_then line v next) (name w line ∷ z) last) (sym prefix) (a_work e is);
      takes = λ stack. ap (scan d (statement_phrases word.Work ++ stack)) prefix;
      shorter = let lengths = ap length prefix in omega (arith, lengths);
      within = λ next h. h;
    }

pub reads_call : (d line l l' : ℕ) (s : Service) (c : ACall) (tokens r1 r2 rest : List Token) → tokens ≡ mark OpenParen l ∷ r1 → IsCall s c r1 r2 → r2 ≡ mark Semicolon l' ∷ rest → ReadsRest (word.Service s) d line tokens (Call line c) rest
reads_call d line l l' s c tokens r1 r2 rest e1 is e2 =
    record {
      joins = λ w next last e more. subst (λ (z : List Token). IsStatements (call_then line c next) (name w line ∷ z) last) (sym e1) (grammar.a_call e (subst (λ (z : List Token). IsCall s c r1 z) e2 is) more);
      takes = λ stack. ap (scan d (statement_phrases (word.Service s) ++ stack)) e1 ∙ takes_call is d (a_semicolon ∷ (some_statements ∷ [])) stack ∙ ap (scan d (a_semicolon ∷ (some_statements ∷ stack))) e2;
      shorter = let prefix = ap length e1 in let back = ap length e2 in omega (arith, prefix, back, shorter_call is);
      within = λ next h. h;
    }

pub stops_behind_call : (d l : ℕ) (s : Service) (c : ACall) (tokens r1 r2 : List Token) (stop : Stop) → tokens ≡ mark OpenParen l ∷ r1 → IsCall s c r1 r2 → StopsIn (a_semicolon ∷ []) d r2 stop → StopsIn (statement_phrases (word.Service s)) d tokens stop
stops_behind_call d l s c tokens r1 r2 stop e is h stack =
    ap (scan d (statement_phrases (word.Service s) ++ stack)) e ∙ takes_call is d (a_semicolon ∷ (some_statements ∷ [])) stack ∙ h (some_statements ∷ stack)

-- a block at the end of tokens
block_front : (d : ℕ) (s : Statements) (tokens rest : List Token) (b : ReadsBlock d tokens s rest) → length rest < length tokens
block_front d s tokens rest b = let lengths = ap length b.opens in omega (arith, lengths, shorter_statements b.are_statements)

pub reads_if : (d line l l' l'' : ℕ) (branch : Statements) (tokens r rest : List Token) → tokens ≡ mark OpenParen l ∷ (mark Question l' ∷ (mark CloseParen l'' ∷ r)) → ReadsBlock d r branch rest → ((d : ℕ) (stack : Stack) → scan d (after_if ∷ stack) rest ≡ scan d (some_statements ∷ stack) rest) → ReadsRest word.If d line tokens (If line branch None) rest
reads_if d line l l' l'' branch tokens r rest e b goes_on =
    let prefix : tokens ≡ mark OpenParen l ∷ (mark Question l' ∷ (mark CloseParen l'' ∷ (mark OpenBrace b.line ∷ b.inside))) = e ∙ ap (λ (z : List Token). mark OpenParen l ∷ (mark Question l' ∷ (mark CloseParen l'' ∷ z))) b.opens in
    record {
      joins = λ w next last is more. subst (λ (z : List Token). IsStatements (if_then line branch next) (name w line ∷ z) last) (sym prefix) (an_if is b.are_statements more);
      takes = λ stack. ap (scan d (statement_phrases word.If ++ stack)) e ∙ b.takes (after_if ∷ stack) ∙ goes_on d stack;
      shorter = let lengths = ap length e in omega (arith, lengths, block_front d branch r rest b);
      within = λ next h. within_one d (depth branch) (depth next) b.within h;
    }

pub reads_if_else : (d line l l' l'' l3 : ℕ) (w' : List ℕ) (branch otherwise : Statements) (tokens r r2 r3 rest : List Token) → tokens ≡ mark OpenParen l ∷ (mark Question l' ∷ (mark CloseParen l'' ∷ r)) → ReadsBlock d r branch r2 → r2 ≡ name w' l3 ∷ r3 → is_else w' ≡ true → ReadsBlock d r3 otherwise rest → ReadsRest word.If d line tokens (If line branch (Some otherwise)) rest
reads_if_else d line l l' l'' l3 w' branch otherwise tokens r r2 r3 rest e b e2 is b' =
    let prefix : tokens ≡ mark OpenParen l ∷ (mark Question l' ∷ (mark CloseParen l'' ∷ (mark OpenBrace b.line ∷ b.inside))) = e ∙ ap (λ (z : List Token). mark OpenParen l ∷ (mark Question l' ∷ (mark CloseParen l'' ∷ z))) b.opens in
    let second : r2 ≡ name w' l3 ∷ (mark OpenBrace b'.line ∷ b'.inside) = e2 ∙ ap (λ (z : List Token). name w' l3 ∷ z) b'.opens in
    record {
      joins = λ w next last if more. subst (λ (z : List Token). IsStatements (if_else_then line branch otherwise next) (name w line ∷ z) last) (sym prefix) (an_if_else if (subst (λ (z : List Token). IsStatements branch b.inside z) second b.are_statements) is b'.are_statements more);
      takes = λ stack. ap (scan d (statement_phrases word.If ++ stack)) e ∙ b.takes (after_if ∷ stack) ∙ ap (scan d (after_if ∷ stack)) e2 ∙ takes_else d l3 w' r3 stack is ∙ b'.takes (some_statements ∷ stack);
      shorter = let lengths = ap length e in let others = ap length e2 in omega (arith, lengths, others, block_front d branch r r2 b, block_front d otherwise r3 rest b');
      within = λ next h. within_two d (depth branch) (depth otherwise) (depth next) b.within b'.within h;
    }

pub stops_in_else : (d l l' l'' l3 : ℕ) (w' : List ℕ) (branch : Statements) (tokens r r2 r3 : List Token) (stop : Stop) → tokens ≡ mark OpenParen l ∷ (mark Question l' ∷ (mark CloseParen l'' ∷ r)) → ReadsBlock d r branch r2 → r2 ≡ name w' l3 ∷ r3 → is_else w' ≡ true → StopsIn block_phrases d r3 stop → StopsIn (statement_phrases word.If) d tokens stop
stops_in_else d l l' l'' l3 w' branch tokens r r2 r3 stop e b e2 is h stack =
    ap (scan d (statement_phrases word.If ++ stack)) e ∙ b.takes (after_if ∷ stack) ∙ ap (scan d (after_if ∷ stack)) e2 ∙ takes_else d l3 w' r3 stack is ∙ h (some_statements ∷ stack)

pub stops_behind_condition : (d l : ℕ) (c : Condition) (t : Token) (tokens r1 r2 : List Token) (stop : Stop) → tokens ≡ mark OpenParen l ∷ r1 → r1 ≡ t ∷ r2 → IsCondition c t → StopsIn (close_paren ∷ []) d r2 stop → StopsIn (statement_phrases word.While) d tokens stop
stops_behind_condition d l c t tokens r1 r2 stop e1 e2 is h stack =
    let prefix : tokens ≡ mark OpenParen l ∷ (t ∷ r2) = e1 ∙ ap (λ (z : List Token). mark OpenParen l ∷ z) e2 in
    ap (scan d (statement_phrases word.While ++ stack)) prefix ∙ takes_condition is d (close_paren ∷ (open_brace ∷ (some_statements ∷ (some_statements ∷ stack)))) r2 ∙ h (open_brace ∷ (some_statements ∷ (some_statements ∷ stack)))

pub reads_while : (d line l l' : ℕ) (c : Condition) (t : Token) (body : Statements) (tokens r1 r2 r rest : List Token) → tokens ≡ mark OpenParen l ∷ r1 → r1 ≡ t ∷ r2 → IsCondition c t → r2 ≡ mark CloseParen l' ∷ r → ReadsBlock d r body rest → ReadsRest word.While d line tokens (While line c body) rest
reads_while d line l l' c t body tokens r1 r2 r rest e1 e2 is e3 b =
    let short : tokens ≡ mark OpenParen l ∷ (t ∷ (mark CloseParen l' ∷ r)) = e1 ∙ ap (λ (z : List Token). mark OpenParen l ∷ z) (e2 ∙ ap (λ (z : List Token). t ∷ z) e3) in
    let prefix : tokens ≡ mark OpenParen l ∷ (t ∷ (mark CloseParen l' ∷ (mark OpenBrace b.line ∷ b.inside))) = short ∙ ap (λ (z : List Token). mark OpenParen l ∷ (t ∷ (mark CloseParen l' ∷ z))) b.opens in
    record {
      joins = λ w next last word more. subst (λ (z : List Token). IsStatements (while_then line c body next) (name w line ∷ z) last) (sym prefix) (a_while word is b.are_statements more);
      takes = λ stack. ap (scan d (statement_phrases word.While ++ stack)) short ∙ takes_condition is d (close_paren ∷ (open_brace ∷ (some_statements ∷ (some_statements ∷ stack)))) (mark CloseParen l' ∷ r) ∙ b.takes (some_statements ∷ stack);
      shorter = let lengths = ap length short in omega (arith, lengths, block_front d body r rest b);
      within = λ next h. within_one d (depth body) (depth next) b.within h;
    }

-- a statement by its first word
pub reads_statement : (kind : StatementWord) (d line : ℕ) (w : List ℕ) (tokens : List Token) (s : Statement) (rest : List Token) → statement_word w ≡ Some kind → ReadsRest kind d line tokens s rest → ReadsStatement d (name w line ∷ tokens) s rest
reads_statement kind d line w tokens s rest e r =
    record {
      joins = λ next last is. r.joins w next last e is;
      takes = λ stack. takes_word d line w (Some kind) tokens stack e ∙ r.takes stack;
      shorter = let h = r.shorter in omega (arith, h);
      within = r.within;
    }

pub stops_behind_word : (kind : StatementWord) (d line : ℕ) (w : List ℕ) (tokens : List Token) (stop : Stop) → statement_word w ≡ Some kind → StopsIn (statement_phrases kind) d tokens stop → StopsIn (some_statements ∷ []) d (name w line ∷ tokens) stop
stops_behind_word kind d line w tokens stop e h stack = takes_word d line w (Some kind) tokens stack e ∙ h stack

pub stops_at_word : (d line : ℕ) (w : List ℕ) (tokens : List Token) → statement_word w ≡ None → StopsIn (some_statements ∷ []) d (name w line ∷ tokens) (NotAllowed line)
stops_at_word d line w tokens e stack = takes_word d line w None tokens stack e

-- a list grows at its end
list_before-push : (items : List Statement) (s : Statement) (next : Statements) → list_before (items ++ s ∷ []) next ≡ list_before items (statement_before s next)
list_before-push [] s next = refl
list_before-push (x ∷ items) s next = ap (statement_before x) (list_before-push items s next)

abbrev pub ListJoins : List Statement → List Token → List Token → Type 0
ListJoins items tokens rest = (next : Statements) (last : List Token) → IsStatements next rest last → IsStatements (list_before items next) tokens last

pub list_joins : (d : ℕ) (w : List ℕ) (t : Token) (items more : List Statement) (s : Statement) (tokens rest after behind : List Token) → ListJoins items tokens rest → rest ≡ t ∷ after → t.kind ≡ Name w → ReadsStatement d (name w t.line ∷ after) s behind → more ≡ items ++ s ∷ [] → ListJoins more tokens behind
list_joins d w t items more s tokens rest after behind joins e k read same = λ next last is.
    let prefix : rest ≡ name w t.line ∷ after = front_is t (Name w) rest after e k in
    let one : IsStatements (statement_before s next) rest last = subst (λ (z : List Token). IsStatements (statement_before s next) z last) (sym prefix) (read.joins next last is) in
    subst (λ (x : Statements). IsStatements x tokens last) (sym (ap (λ (x : List Statement). list_before x next) same ∙ list_before-push items s next)) (joins (statement_before s next) last one)

pub list_takes : (d : ℕ) (w : List ℕ) (t : Token) (s : Statement) (rest after behind : List Token) → rest ≡ t ∷ after → t.kind ≡ Name w → ReadsStatement d (name w t.line ∷ after) s behind → (stack : Stack) → scan d (some_statements ∷ stack) rest ≡ scan d (some_statements ∷ stack) behind
list_takes d w t s rest after behind e k read stack = ap (scan d (some_statements ∷ stack)) (front_is t (Name w) rest after e k) ∙ read.takes stack

pub list_stops : (d : ℕ) (w : List ℕ) (t : Token) (rest after : List Token) (stop : Stop) → rest ≡ t ∷ after → t.kind ≡ Name w → StopsIn (some_statements ∷ []) d (name w t.line ∷ after) stop → StopsIn (some_statements ∷ []) d rest stop
list_stops d w t rest after stop e k h stack = ap (scan d (some_statements ∷ stack)) (front_is t (Name w) rest after e k) ∙ h stack

pub list_within : (d : ℕ) (items more : List Statement) (s : Statement) → ((next : Statements) → depth next + d ≤ 32 → depth (list_before items next) + d ≤ 32) → IsWithin d s → more ≡ items ++ s ∷ [] → (next : Statements) → depth next + d ≤ 32 → depth (list_before more next) + d ≤ 32
list_within d items more s all one same next h =
    subst (λ (x : Statements). depth x + d ≤ 32) (sym (ap (λ (x : List Statement). list_before x next) same ∙ list_before-push items s next)) (all (statement_before s next) (one next h))

-- the end of a list
pub reads_close : (d : ℕ) (m : AMark) (t : Token) (items : List Statement) (s : Statements) (tokens rest after : List Token) → d ≤ 32 → ListJoins items tokens rest → ((stack : Stack) → scan d (some_statements ∷ stack) tokens ≡ scan d (some_statements ∷ stack) rest) → ((next : Statements) → depth next + d ≤ 32 → depth (list_before items next) + d ≤ 32) → rest ≡ t ∷ after → t.kind ≡ Mark m → m ≡ CloseBrace → s ≡ list_of items t.line → ReadsStatements d tokens s after
reads_close d m t items s tokens rest after limit joins takes within e k is same =
    let prefix : rest ≡ mark CloseBrace t.line ∷ after = front_is t (Mark CloseBrace) rest after e (k ∙ ap Mark is) in
    record {
      are_statements = subst (λ (x : Statements). IsStatements x tokens after) (sym same) (joins (closed t.line) after (subst (λ (z : List Token). IsStatements (closed t.line) z after) (sym prefix) no_more));
      takes = λ stack. takes stack ∙ ap (scan d (some_statements ∷ stack)) prefix;
      within = subst (λ (x : Statements). depth x + d ≤ 32) (sym same) (within (closed t.line) (omega (arith, limit)));
    }

-- a block
pub reads_block : (d : ℕ) (t : Token) (s : Statements) (tokens ts rest : List Token) → tokens ≡ t ∷ ts → is_open t.kind ≡ true → d < 32 → ReadsStatements (d + 1) ts s rest → ReadsBlock d tokens s rest
reads_block d t s tokens ts rest e o h r =
    let prefix : tokens ≡ mark OpenBrace t.line ∷ ts = front_is t (Mark OpenBrace) tokens ts e (open_kind t.kind o) in
    let back : d + 1 - 1 ≡ d = omega arith in
    record {
      line = t.line;
      inside = ts;
      opens = prefix;
      are_statements = r.are_statements;
      takes = λ stack. ap (scan d (block_phrases ++ stack)) prefix ∙ takes_open d t.line (some_statements ∷ stack) ts h ∙ r.takes stack ∙ ap (λ n. scan n stack rest) back;
      within = let w = r.within in omega (arith, w);
    }

pub stops_in_block : (d : ℕ) (t : Token) (tokens ts : List Token) (stop : Stop) → tokens ≡ t ∷ ts → is_open t.kind ≡ true → d < 32 → StopsIn (some_statements ∷ []) (d + 1) ts stop → StopsIn block_phrases d tokens stop
stops_in_block d t tokens ts stop e o h r stack =
    ap (scan d (block_phrases ++ stack)) (front_is t (Mark OpenBrace) tokens ts e (open_kind t.kind o)) ∙ takes_open d t.line (some_statements ∷ stack) ts h ∙ r stack

not_open_kind : (kind : TokenKind) (d line : ℕ) (ts : List Token) (stack : Stack) → is_open kind ≡ false → scan d (open_brace ∷ stack) (record { kind = kind; line = line } ∷ ts) ≡ Some (NotAllowed line)
not_open_kind (Name n) d line ts stack e = refl
not_open_kind (Number n) d line ts stack e = refl
not_open_kind (Text n) d line ts stack e = refl
not_open_kind (Mark OpenBrace) d line ts stack e = absurd cc
not_open_kind (Mark _) d line ts stack e = refl

pub stops_not_open : (d : ℕ) (t : Token) (tokens ts : List Token) → tokens ≡ t ∷ ts → is_open t.kind ≡ false → StopsIn block_phrases d tokens (NotAllowed t.line)
stops_not_open d t tokens ts e o stack = rw e (not_open_kind t.kind d t.line ts (some_statements ∷ stack) o)
