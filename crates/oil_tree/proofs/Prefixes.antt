-- A list of tokens is a prefix of a sentence exactly where the stack of expectations takes it.
use Rattle.std.proofs.Common.{◌≡◌, ◌⊎◌, ℕ, false, List, [], ◌∷◌, refl, sym, ap, ◌∙◌, subst}
use Rattle.std.specs.Prelude.{Option, Some, None, codes}
use Rattle.oil_lexer.specs.declared.token.{TokenKind.{TokenKind, TheVariants.{Name, Number, Text, Mark}}, Mark.TheVariants.{OpenBrace, CloseBrace, Equals, Semicolon, Colon, Plus, Minus}, Token.{Token}}
use Rattle.oil_tree.specs.declared.words.Word.{Word as Keyword, TheVariants.{Version, Implementation, Cpu, Other}}
use Rattle.oil_tree.specs.declared.tree.{Value.{Value, TheVariants.{Word, Quoted, Numeric}}, Sign.{Sign}, Object.{Object}, Tree.{Tree}}
use Rattle.oil_tree.specs.declared.tree.Sign.TheVariants as sign
use Rattle.oil_tree.specs.Attrs.{Attrs, no_attrs, attr_then}
use Rattle.oil_lexer.specs.Tokens.{is_open, name, number, text, mark, is_close}
use Rattle.oil_tree.specs.Words.{word_of}
use Rattle.oil_tree.specs.Grammar.{IsValue, is_name, is_text, is_number, is_plus, is_minus, IsEnd, plain, described, IsAttrs, no_more, one_more, IsBody, bare, nested, IsObjects, no_objects, one_object, IsBalanced, closed, braces, other, IsCpu, cpu, IsUnversioned, no_impl, impl, IsFile, no_version, version, IsSentence}
use Rattle.oil_tree.specs.Expect.{Phrase, a_file, an_unversioned, a_cpu, some_objects, some_attrs, some_balanced, a_body, an_end, a_value, a_name, a_text, a_number, an_equals, an_open, a_semicolon, Stack, step, step_all, behind_file, run, cpu_word, unversioned_word, file_word, scan}
use Rattle.oil_lexer.specs.declared.fault.Stop.{Stop}
use Rattle.osek_values.specs.declared.{refused.LineFault.{LineFault}, refusal.SyntaxRule.{SyntaxRule}}
use Rattle.oil_lexer.specs.Scan.{fault_of}
use Rattle.oil_lexer.proofs.FirstFault as first
use Rattle.oil_lexer.proofs.PhraseStacks as stacks
use Rattle.osek_values.specs.declared.limits.TheConstants.{MAX_OIL_DEPTH}
use Rattle.oil_tree.specs.Faults.{IsFirstFault, HasTree}

-- 1. The stack takes each phrase of the grammar.

run_value : {v : Value} {ts rest : List Token} → IsValue v ts rest → (stack : Stack) → run (a_value ∷ stack) ts ≡ run stack rest
run_value is_name stack = refl
run_value is_text stack = refl
run_value is_number stack = refl
run_value is_plus stack = refl
run_value is_minus stack = refl

run_end : {ts rest : List Token} → IsEnd ts rest → (stack : Stack) → run (an_end ∷ stack) ts ≡ run stack rest
run_end plain stack = refl
run_end described stack = refl

run_bare : {ts rest : List Token} → IsEnd ts rest → (stack : Stack) → run (a_body ∷ stack) ts ≡ run stack rest
run_bare plain stack = refl
run_bare described stack = refl

mutual
  run_attrs : {attrs : Attrs} {ts rest : List Token} → IsAttrs attrs ts rest → (stack : Stack) → run (some_attrs ∷ stack) ts ≡ run stack rest
  run_attrs no_more stack = refl
  run_attrs (one_more v b more) stack = run_value v _ ∙ run_body b _ ∙ run_attrs more stack

  run_body : {attrs : Attrs} {ts rest : List Token} → IsBody attrs ts rest → (stack : Stack) → run (a_body ∷ stack) ts ≡ run stack rest
  run_body (bare e) stack = run_bare e stack
  run_body (nested inner e) stack = run_attrs inner _ ∙ run_end e stack

run_objects : {objects : List Object} {ts rest : List Token} → IsObjects objects ts rest → (stack : Stack) → run (some_objects ∷ stack) ts ≡ run stack rest
run_objects no_objects stack = refl
run_objects (one_object b more) stack = run_body b _ ∙ run_objects more stack

-- the run behind a first token
abbrev behind : Stack → List Token → Option Stack → Option Stack
behind = stacks.behind Phrase step behind_file

step_other : (kind : TokenKind) → is_open kind ≡ false → is_close kind ≡ false → step some_balanced kind ≡ Some (some_balanced ∷ [])
step_other (Name n) o c = refl
step_other (Number n) o c = refl
step_other (Text n) o c = refl
step_other (Mark OpenBrace) o c = absurd cc
step_other (Mark CloseBrace) o c = absurd cc
step_other (Mark _) o c = refl

run_balanced : {ts rest : List Token} → IsBalanced ts rest → (stack : Stack) → run (some_balanced ∷ stack) ts ≡ run stack rest
run_balanced closed stack = refl
run_balanced (braces a b) stack = run_balanced a _ ∙ run_balanced b stack
run_balanced (other {t} {a} {rest} o c more) stack = ap (behind stack a) (step_other t.kind o c) ∙ run_balanced more stack

run_cpu_word : {file : Tree} {ts rest : List Token} → IsCpu file ts rest → (stack : Stack) (p : Phrase) → ((n : List ℕ) → word_of n ≡ Cpu → step p (Name n) ≡ cpu_word Cpu) → run (p ∷ stack) ts ≡ run stack rest
run_cpu_word (cpu {w} {n} {l} {l'} {l''} {objects} {a} {b} {rest} e objs end) stack p takes =
    ap (behind stack (name n l' ∷ (mark OpenBrace l'' ∷ a))) (takes w e) ∙ run_objects objs _ ∙ run_end end stack

run_cpu : {file : Tree} {ts rest : List Token} → IsCpu file ts rest → (stack : Stack) → run (a_cpu ∷ stack) ts ≡ run stack rest
run_cpu c stack = run_cpu_word c stack a_cpu (λ n e. ap cpu_word e)

run_impl_word : {file : Tree} {ts rest : List Token} → IsUnversioned file ts rest → (stack : Stack) (p : Phrase) → ((n : List ℕ) → word_of n ≡ Cpu → step p (Name n) ≡ cpu_word Cpu) → ((n : List ℕ) → word_of n ≡ Implementation → step p (Name n) ≡ unversioned_word Implementation) → run (p ∷ stack) ts ≡ run stack rest
run_impl_word (no_impl c) stack p takes takes' = run_cpu_word c stack p takes
run_impl_word (impl {file} {w} {n} {l} {l'} {l''} {a} {b} {c} {rest} e balanced end more) stack p takes takes' =
    ap (behind stack (name n l' ∷ (mark OpenBrace l'' ∷ a))) (takes' w e) ∙ run_balanced balanced _ ∙ run_end end _ ∙ run_cpu more stack

run_unversioned : {file : Tree} {ts rest : List Token} → IsUnversioned file ts rest → (stack : Stack) → run (an_unversioned ∷ stack) ts ≡ run stack rest
run_unversioned u stack = run_impl_word u stack an_unversioned (λ n e. ap unversioned_word e) (λ n e. ap unversioned_word e)

run_file : {file : Tree} {ts rest : List Token} → IsFile file ts rest → (stack : Stack) → run (a_file ∷ stack) ts ≡ run stack rest
run_file (no_version u) stack = run_impl_word u stack a_file (λ n e. ap file_word e) (λ n e. ap file_word e)
run_file (version {file} {w} {t} {l} {l'} {l''} {a} {b} {rest} e end more) stack =
    ap (λ x. behind stack (mark Equals l' ∷ (text t l'' ∷ a)) (file_word x)) e ∙ run_end end _ ∙ run_unversioned more stack

-- 2. What the stack takes is in the grammar.

-- the tokens begin with the phrase
abbrev IsPhrase : Phrase → List Token → List Token → Type 0
IsPhrase a_file ts rest = (file : Tree) × IsFile file ts rest
IsPhrase an_unversioned ts rest = (file : Tree) × IsUnversioned file ts rest
IsPhrase a_cpu ts rest = (file : Tree) × IsCpu file ts rest
IsPhrase some_objects ts rest = (objects : List Object) × IsObjects objects ts rest
IsPhrase some_attrs ts rest = (attrs : Attrs) × IsAttrs attrs ts rest
IsPhrase some_balanced ts rest = IsBalanced ts rest
IsPhrase a_body ts rest = (attrs : Attrs) × IsBody attrs ts rest
IsPhrase an_end ts rest = IsEnd ts rest
IsPhrase a_value ts rest = (value : Value) × IsValue value ts rest
IsPhrase a_name ts rest = (n : List ℕ) × (l : ℕ) × (ts ≡ name n l ∷ rest)
IsPhrase a_text ts rest = (t : List ℕ) × (l : ℕ) × (ts ≡ text t l ∷ rest)
IsPhrase a_number ts rest = (v : ℕ) × (l : ℕ) × (ts ≡ number v l ∷ rest)
IsPhrase an_equals ts rest = (l : ℕ) × (ts ≡ mark Equals l ∷ rest)
IsPhrase an_open ts rest = (l : ℕ) × (ts ≡ mark OpenBrace l ∷ rest)
IsPhrase a_semicolon ts rest = (l : ℕ) × (ts ≡ mark Semicolon l ∷ rest)

-- behind a file nothing comes
abbrev IsNothing : List Token → Type 0
IsNothing ts = ts ≡ []

-- the tokens are the stack's phrases
abbrev ArePhrases : Stack → List Token → Type 0
ArePhrases = stacks.ArePhrases Phrase step behind_file IsPhrase IsNothing

end_text : {ts rest b : List Token} (l : ℕ) → IsPhrase a_text ts b → IsPhrase a_semicolon b rest → IsEnd (mark Colon l ∷ ts) rest
end_text {ts} {rest} {b} l (t, l', e) (l'', e') =
    subst (λ (x : List Token). IsEnd (mark Colon l ∷ x) rest) (sym (e ∙ ap (λ (x : List Token). text t l' ∷ x) e')) described

cpu_back : (n : List ℕ) (line : ℕ) (stack : Stack) (ts : List Token) → word_of n ≡ Cpu → ArePhrases (a_name ∷ (an_open ∷ (some_objects ∷ (an_end ∷ stack)))) ts → ArePhrases (a_cpu ∷ stack) (name n line ∷ ts)
cpu_back n line stack ts e (b, (m, l, e1), (c, (l', e2), (d, (objects, objs), (rest, end, more)))) =
    let parts : ts ≡ name m l ∷ (mark OpenBrace l' ∷ c) = e1 ∙ ap (λ (x : List Token). name m l ∷ x) e2 in
    (rest, (record { line = line; objects = objects }, subst (λ (x : List Token). IsCpu (record { line = line; objects = objects }) (name n line ∷ x) rest) (sym parts) (cpu e objs end)), more)

impl_back : (n : List ℕ) (line : ℕ) (stack : Stack) (ts : List Token) → word_of n ≡ Implementation → ArePhrases (a_name ∷ (an_open ∷ (some_balanced ∷ (an_end ∷ (a_cpu ∷ stack))))) ts → ArePhrases (an_unversioned ∷ stack) (name n line ∷ ts)
impl_back n line stack ts e (b, (m, l, e1), (c, (l', e2), (d, balanced, (f, end, (rest, (file, c'), more))))) =
    let parts : ts ≡ name m l ∷ (mark OpenBrace l' ∷ c) = e1 ∙ ap (λ (x : List Token). name m l ∷ x) e2 in
    (rest, (file, subst (λ (x : List Token). IsUnversioned file (name n line ∷ x) rest) (sym parts) (impl e balanced end c')), more)

version_back : (n : List ℕ) (line : ℕ) (stack : Stack) (ts : List Token) → word_of n ≡ Version → ArePhrases (an_equals ∷ (a_text ∷ (an_end ∷ (an_unversioned ∷ stack)))) ts → ArePhrases (a_file ∷ stack) (name n line ∷ ts)
version_back n line stack ts e (b, (l, e1), (c, (t, l', e2), (d, end, (rest, (file, u), more)))) =
    let parts : ts ≡ mark Equals l ∷ (text t l' ∷ c) = e1 ∙ ap (λ (x : List Token). mark Equals l ∷ x) e2 in
    (rest, (file, subst (λ (x : List Token). IsFile file (name n line ∷ x) rest) (sym parts) (version e end u)), more)

-- the stack behind a first token, as the stack before it
abbrev Back : Stack → Token → Stack → List Token → Option Stack → Type 0
Back = stacks.Back Phrase step behind_file IsPhrase IsNothing

cpu_word_back : (n : List ℕ) (line : ℕ) (stack : Stack) (ts : List Token) (w : Keyword)
    → word_of n ≡ w → Back (a_cpu ∷ stack) (name n line) stack ts (cpu_word w)
cpu_word_back n line stack ts Cpu e = cpu_back n line stack ts e
cpu_word_back n line stack ts Version e = tt
cpu_word_back n line stack ts Implementation e = tt
cpu_word_back n line stack ts Other e = tt

unversioned_word_back : (n : List ℕ) (line : ℕ) (stack : Stack) (ts : List Token) (w : Keyword) → word_of n ≡ w → Back (an_unversioned ∷ stack) (name n line) stack ts (unversioned_word w)
unversioned_word_back n line stack ts Cpu e = λ h. let (rest, (file, c), more) = cpu_back n line stack ts e h in (rest, (file, no_impl c), more)
unversioned_word_back n line stack ts Version e = tt
unversioned_word_back n line stack ts Implementation e = impl_back n line stack ts e
unversioned_word_back n line stack ts Other e = tt

file_word_back : (n : List ℕ) (line : ℕ) (stack : Stack) (ts : List Token) (w : Keyword)
    → word_of n ≡ w → Back (a_file ∷ stack) (name n line) stack ts (file_word w)
file_word_back n line stack ts Cpu e = λ h. let (rest, (file, c), more) = cpu_back n line stack ts e h in (rest, (file, no_version (no_impl c)), more)
file_word_back n line stack ts Version e = version_back n line stack ts e
file_word_back n line stack ts Implementation e = λ h. let (rest, (file, c), more) = impl_back n line stack ts e h in (rest, (file, no_version c), more)
file_word_back n line stack ts Other e = tt

attr_back : (n : List ℕ) (line : ℕ) (stack : Stack) (ts : List Token) → ArePhrases (an_equals ∷ (a_value ∷ (a_body ∷ (some_attrs ∷ stack)))) ts → ArePhrases (some_attrs ∷ stack) (name n line ∷ ts)
attr_back n line stack ts (b, (l, e1), (c, (value, v), (d, (inner, body), (rest, (next, attrs), more)))) =
    (rest, (attr_then n line value inner next, subst (λ (x : List Token). IsAttrs (attr_then n line value inner next) (name n line ∷ x) rest) (sym e1) (one_more v body attrs)), more)

object_back : (n : List ℕ) (line : ℕ) (stack : Stack) (ts : List Token) → ArePhrases (a_name ∷ (a_body ∷ (some_objects ∷ stack))) ts → ArePhrases (some_objects ∷ stack) (name n line ∷ ts)
object_back n line stack ts (b, (m, l, e1), (c, (attrs, body), (rest, (next, objects), more))) =
    let all : List Object = record { kind = n; line = line; name = m; attrs = attrs } ∷ next in
    (rest, (all, subst (λ (x : List Token). IsObjects all (name n line ∷ x) rest) (sym e1) (one_object body objects)), more)

number_back : (sign : Sign) (t : Token) (ts rest : List Token) → ((v l : ℕ) → IsValue (Numeric sign v) (t ∷ (number v l ∷ rest)) rest) → IsPhrase a_number ts rest → IsPhrase a_value (t ∷ ts) rest
number_back sign t ts rest is (v, l, e) = (Numeric sign v, subst (λ (x : List Token). IsValue (Numeric sign v) (t ∷ x) rest) (sym e) (is v l))

back : (p : Phrase) (kind : TokenKind) (line : ℕ) (stack : Stack) (ts : List Token)
    → Back (p ∷ stack) (record { kind = kind; line = line }) stack ts (step p kind)
back a_file (Name n) line stack ts = file_word_back n line stack ts (word_of n) refl
back an_unversioned (Name n) line stack ts = unversioned_word_back n line stack ts (word_of n) refl
back a_cpu (Name n) line stack ts = cpu_word_back n line stack ts (word_of n) refl
back some_objects (Name n) line stack ts = object_back n line stack ts
back some_objects (Mark CloseBrace) line stack ts = λ h. (ts, ([], no_objects), h)
back some_attrs (Name n) line stack ts = attr_back n line stack ts
back some_attrs (Mark CloseBrace) line stack ts = λ h. (ts, (no_attrs, no_more), h)
back some_balanced (Mark OpenBrace) line stack ts = λ (b, one, (rest, two, more)). (rest, braces one two, more)
back some_balanced (Mark CloseBrace) line stack ts = λ h. (ts, closed, h)
back some_balanced (Name n) line stack ts = λ (rest, one, more). (rest, other refl refl one, more)
back some_balanced (Number n) line stack ts = λ (rest, one, more). (rest, other refl refl one, more)
back some_balanced (Text n) line stack ts = λ (rest, one, more). (rest, other refl refl one, more)
back some_balanced (Mark _) line stack ts = λ (rest, one, more). (rest, other refl refl one, more)
back a_body (Mark OpenBrace) line stack ts = λ (b, (attrs, is), (rest, end, more)). (rest, (attrs, nested is end), more)
back a_body (Mark Semicolon) line stack ts = λ h. (ts, (no_attrs, bare plain), h)
back a_body (Mark Colon) line stack ts = λ (b, t, (rest, s, more)). (rest, (no_attrs, bare (end_text line t s)), more)
back an_end (Mark Semicolon) line stack ts = λ h. (ts, plain, h)
back an_end (Mark Colon) line stack ts = λ (b, t, (rest, s, more)). (rest, end_text line t s, more)
back a_value (Name n) line stack ts = λ h. (ts, (Word n, is_name), h)
back a_value (Text t) line stack ts = λ h. (ts, (Quoted t, is_text), h)
back a_value (Number v) line stack ts = λ h. (ts, (Numeric sign.Bare v, is_number), h)
back a_value (Mark Plus) line stack ts = λ (rest, v, more). (rest, number_back sign.Plus (mark Plus line) ts rest (λ v l. is_plus) v, more)
back a_value (Mark Minus) line stack ts = λ (rest, v, more). (rest, number_back sign.Minus (mark Minus line) ts rest (λ v l. is_minus) v, more)
back a_name (Name n) line stack ts = λ h. (ts, (n, line, refl), h)
back a_text (Text t) line stack ts = λ h. (ts, (t, line, refl), h)
back a_number (Number v) line stack ts = λ h. (ts, (v, line, refl), h)
back an_equals (Mark Equals) line stack ts = λ h. (ts, (line, refl), h)
back an_open (Mark OpenBrace) line stack ts = λ h. (ts, (line, refl), h)
back a_semicolon (Mark Semicolon) line stack ts = λ h. (ts, (line, refl), h)
back _ _ line stack ts = tt

-- what the stack takes to its end is the stack's phrases
taken : (ts : List Token) (stack : Stack) → run stack ts ≡ Some [] → ArePhrases stack ts
taken = stacks.taken Phrase step behind_file IsPhrase IsNothing back (λ kind line ts. tt) refl

-- 3. Whatever the stack is, something completes it.

-- the shortest of each phrase
abbrev least : Phrase → List Token → List Token
least a_file more = name (codes "CPU") 0 ∷ (name (codes "c") 0 ∷ (mark OpenBrace 0 ∷ (mark CloseBrace 0 ∷ (mark Semicolon 0 ∷ more))))
least an_unversioned more = name (codes "CPU") 0 ∷ (name (codes "c") 0 ∷ (mark OpenBrace 0 ∷ (mark CloseBrace 0 ∷ (mark Semicolon 0 ∷ more))))
least a_cpu more = name (codes "CPU") 0 ∷ (name (codes "c") 0 ∷ (mark OpenBrace 0 ∷ (mark CloseBrace 0 ∷ (mark Semicolon 0 ∷ more))))
least some_objects more = mark CloseBrace 0 ∷ more
least some_attrs more = mark CloseBrace 0 ∷ more
least some_balanced more = mark CloseBrace 0 ∷ more
least a_body more = mark Semicolon 0 ∷ more
least an_end more = mark Semicolon 0 ∷ more
least a_value more = number 0 0 ∷ more
least a_name more = name (codes "c") 0 ∷ more
least a_text more = text [] 0 ∷ more
least a_number more = number 0 0 ∷ more
least an_equals more = mark Equals 0 ∷ more
least an_open more = mark OpenBrace 0 ∷ more
least a_semicolon more = mark Semicolon 0 ∷ more

least_taken : (p : Phrase) (stack : Stack) (more : List Token) → run (p ∷ stack) (least p more) ≡ run stack more
least_taken a_file stack more = refl
least_taken an_unversioned stack more = refl
least_taken a_cpu stack more = refl
least_taken some_objects stack more = refl
least_taken some_attrs stack more = refl
least_taken some_balanced stack more = refl
least_taken a_body stack more = refl
least_taken an_end stack more = refl
least_taken a_value stack more = refl
least_taken a_name stack more = refl
least_taken a_text stack more = refl
least_taken a_number stack more = refl
least_taken an_equals stack more = refl
least_taken an_open stack more = refl
least_taken a_semicolon stack more = refl

completion : (stack : Stack) → (more : List Token) × (run stack more ≡ Some [])
completion = stacks.completion Phrase step behind_file least least_taken

-- 4. The scan gives the first fault.

complete : (tokens : List Token) (tree : Tree) → IsSentence tokens tree → run (a_file ∷ []) tokens ≡ Some []
complete tokens tree is = run_file is []

right : (tokens : List Token) → run (a_file ∷ []) tokens ≡ Some [] → (tree : Tree) × IsSentence tokens tree
right tokens e =
    let (rest, (tree, is), end) = taken tokens (a_file ∷ []) e in
    (tree, subst (λ (x : List Token). IsFile tree tokens x) end is)

pub stop_fault : (tokens : List Token) (stop : Stop) → scan 0 (a_file ∷ []) tokens ≡ Some stop → IsFirstFault tokens (fault_of stop tokens).rule (fault_of stop tokens).line
stop_fault = first.stop_fault Tree IsSentence MAX_OIL_DEPTH Phrase step_all (a_file ∷ []) complete right completion

pub has_tree : (tokens : List Token) (tree : Tree) → IsSentence tokens tree → scan 0 (a_file ∷ []) tokens ≡ None → HasTree tokens tree
has_tree = first.has_tree Tree IsSentence MAX_OIL_DEPTH Phrase step_all (a_file ∷ []) complete right completion

pub some_answer : (tokens : List Token) → ((tree : Tree) × HasTree tokens tree) ⊎ ((fault : LineFault SyntaxRule) × IsFirstFault tokens fault.rule fault.line)
some_answer = first.some_answer Tree IsSentence MAX_OIL_DEPTH Phrase step_all (a_file ∷ []) complete right completion
