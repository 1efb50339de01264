-- What the scan does at attributes that were read.
use Rattle.std.proofs.Common.{◌≡◌, ℕ, ◌+◌, ◌-◌, ◌<◌, true, false, List, [], ◌∷◌, ◌++◌, length, refl, sym, ap, ◌∙◌, subst, arith}
use Rattle.std.specs.Prelude.{Some}
use Rattle.oil_lexer.specs.declared.token.{TokenKind.{TokenKind, TheVariants.{Name, Number, Text, Mark}}, Mark.TheVariants.{OpenBrace, CloseBrace, Equals}, Token.{Token}}
use Rattle.oil_tree.specs.declared.tree.{Value.{Value}, Attr.{Attr}}
use Rattle.oil_lexer.specs.declared.fault.Stop.{Stop}
use Rattle.oil_tree.specs.{Attrs.{Attrs, no_attrs, attr_then}, AttrLists.{list_before}}
use Rattle.oil_lexer.specs.Tokens.{name, mark, is_open, is_close}
use Rattle.oil_tree.specs.{Grammar.{IsValue, IsEnd, IsAttrs, no_more, one_more, IsBody, bare, nested}, Expect.{an_end, a_body, some_attrs, Stack, scan}}
use Rattle.oil_tree.specs.Phrases.{attr_phrases, ReadsAttr, ReadsBody, ReadsAttrs}
use Rattle.osek_values.specs.declared.limits.TheConstants.{MAX_OIL_DEPTH}
use Rattle.oil_lexer.proofs.Braces.{open_kind, close_kind, front_is, shallow}
use Rattle.oil_tree.proofs.Ends.{takes_value, takes_end, shorter_value, shorter_body}

-- no closing brace: one more attribute
not_close_kind : (kind : TokenKind) (line d : ℕ) (stack : Stack) (ts : List Token) → is_close kind ≡ false → scan d (some_attrs ∷ stack) (record { kind = kind; line = line } ∷ ts) ≡ scan d (attr_phrases ++ some_attrs ∷ stack) (record { kind = kind; line = line } ∷ ts)
not_close_kind (Name n) line d stack ts e = refl
not_close_kind (Number n) line d stack ts e = refl
not_close_kind (Text n) line d stack ts e = refl
not_close_kind (Mark CloseBrace) line d stack ts e = absurd cc
not_close_kind (Mark _) line d stack ts e = refl

pub not_close : (t : Token) (d : ℕ) (stack : Stack) (ts tokens : List Token) → tokens ≡ t ∷ ts → is_close t.kind ≡ false → scan d (some_attrs ∷ stack) tokens ≡ scan d (attr_phrases ++ some_attrs ∷ stack) tokens
not_close t d stack ts tokens e c = rw e (not_close_kind t.kind t.line d stack ts c)

not_open_kind : (kind : TokenKind) (line d : ℕ) (stack : Stack) (ts : List Token) → is_open kind ≡ false → scan d (a_body ∷ stack) (record { kind = kind; line = line } ∷ ts) ≡ scan d (an_end ∷ stack) (record { kind = kind; line = line } ∷ ts)
not_open_kind (Name n) line d stack ts e = refl
not_open_kind (Number n) line d stack ts e = refl
not_open_kind (Text n) line d stack ts e = refl
not_open_kind (Mark OpenBrace) line d stack ts e = absurd cc
not_open_kind (Mark _) line d stack ts e = refl

pub not_open : (t : Token) (d : ℕ) (stack : Stack) (ts tokens : List Token) → tokens ≡ t ∷ ts → is_open t.kind ≡ false → scan d (a_body ∷ stack) tokens ≡ scan d (an_end ∷ stack) tokens
not_open t d stack ts tokens e c = rw e (not_open_kind t.kind t.line d stack ts c)

-- a body without braces
pub reads_bare : (t : Token) (d : ℕ) (ts tokens rest : List Token) → tokens ≡ t ∷ ts → is_open t.kind ≡ false → IsEnd tokens rest → ReadsBody d tokens no_attrs rest
reads_bare t d ts tokens rest e c end = record { is_body = bare end; takes = λ stack. not_open t d stack ts tokens e c ∙ takes_end end d stack }

pub open_body : (d l : ℕ) (stack : Stack) (ts : List Token) → d < MAX_OIL_DEPTH → scan d (a_body ∷ stack) (mark OpenBrace l ∷ ts) ≡ scan (d + 1) (some_attrs ∷ (an_end ∷ stack)) ts
open_body d l stack ts h = shallow MAX_OIL_DEPTH d _ _ h

-- reading stops in the braces of a body, or behind them
pub stops_within : (t : Token) (d : ℕ) (stack : Stack) (ts tokens : List Token) (stop : Stop) → tokens ≡ t ∷ ts → is_open t.kind ≡ true → d < MAX_OIL_DEPTH → scan (d + 1) (some_attrs ∷ (an_end ∷ stack)) ts ≡ Some stop → scan d (a_body ∷ stack) tokens ≡ Some stop
stops_within t d stack ts tokens stop e o h s =
    let prefix : tokens ≡ mark OpenBrace t.line ∷ ts = front_is t (Mark OpenBrace) tokens ts e (open_kind t.kind o) in
    ap (scan d (a_body ∷ stack)) prefix ∙ open_body d t.line stack ts h ∙ s

pub stops_behind_attrs : (t : Token) (d : ℕ) (inner : Attrs) (stack : Stack) (ts tokens b : List Token) (stop : Stop) → tokens ≡ t ∷ ts → is_open t.kind ≡ true → d < MAX_OIL_DEPTH → ReadsAttrs (d + 1) ts inner b → scan d (an_end ∷ stack) b ≡ Some stop → scan d (a_body ∷ stack) tokens ≡ Some stop
stops_behind_attrs t d inner stack ts tokens b stop e o h r s =
    let back : d + 1 - 1 ≡ d = omega arith in
    stops_within t d stack ts tokens stop e o h (r.takes (an_end ∷ stack) ∙ ap (λ n. scan n (an_end ∷ stack) b) back ∙ s)

pub reads_nested : (t : Token) (d : ℕ) (inner : Attrs) (ts tokens b rest : List Token) → tokens ≡ t ∷ ts → is_open t.kind ≡ true → d < MAX_OIL_DEPTH → ReadsAttrs (d + 1) ts inner b → IsEnd b rest → ReadsBody d tokens inner rest
reads_nested t d inner ts tokens b rest e o h r end =
    let prefix : tokens ≡ mark OpenBrace t.line ∷ ts = front_is t (Mark OpenBrace) tokens ts e (open_kind t.kind o) in
    let back : d + 1 - 1 ≡ d = omega arith in
    record {
      is_body = subst (λ (x : List Token). IsBody inner x rest) (sym prefix) (nested r.is_attrs end);
      takes = λ stack. ap (scan d (a_body ∷ stack)) prefix ∙ open_body d t.line stack ts h ∙ r.takes (an_end ∷ stack) ∙ ap (λ n. scan n (an_end ∷ stack) b) back ∙ takes_end end d stack;
    }

-- one attribute
pub reads_attr : (d l l' : ℕ) (n m : List ℕ) (value : Value) (inner : Attrs) (tokens r1 r2 r3 rest : List Token) → tokens ≡ name n l ∷ r1 → r1 ≡ mark Equals l' ∷ r2 → IsValue value r2 r3 → ReadsBody d r3 inner rest → m ≡ n → ReadsAttr d tokens (record { name = m; line = l; value = value; attrs = inner }) rest
reads_attr d l l' n m value inner tokens r1 r2 r3 rest e1 e2 v body same =
    let prefix : tokens ≡ name m l ∷ (mark Equals l' ∷ r2) = e1 ∙ (λ i. name (sym same i) l ∷ e2 i) in
    record {
      joins = λ next last more. subst (λ (x : List Token). IsAttrs (attr_then m l value inner next) x last) (sym prefix) (one_more v body.is_body more);
      takes = λ stack. ap (scan d (attr_phrases ++ stack)) prefix ∙ takes_value v d _ ∙ body.takes stack;
      shorter = let lengths = ap length prefix in omega (arith, lengths, shorter_value v, shorter_body body.is_body);
    }

-- a list of attributes grows at its end
pub list_before-push : (items : List Attr) (a : Attr) (next : Attrs) → list_before (items ++ a ∷ []) next ≡ list_before items (attr_then a.name a.line a.value a.attrs next)
list_before-push [] a next = refl
list_before-push (x ∷ items) a next = ap (λ (m : Attrs). attr_then x.name x.line x.value x.attrs m) (list_before-push items a next)

-- the end of a list of attributes
pub reads_close : (t : Token) (d : ℕ) (items : List Attr) (attrs : Attrs) (tokens rest after : List Token) → ((next : Attrs) (last : List Token) → IsAttrs next rest last → IsAttrs (list_before items next) tokens last) → ((stack : Stack) → scan d (some_attrs ∷ stack) tokens ≡ scan d (some_attrs ∷ stack) rest) → rest ≡ t ∷ after → is_close t.kind ≡ true → attrs ≡ list_before items no_attrs → ReadsAttrs d tokens attrs after
reads_close t d items attrs tokens rest after joins takes e c same =
    let prefix : rest ≡ mark CloseBrace t.line ∷ after = front_is t (Mark CloseBrace) rest after e (close_kind t.kind c) in
    record {
      is_attrs = rw same (joins no_attrs after (subst (λ (x : List Token). IsAttrs no_attrs x after) (sym prefix) no_more));
      takes = λ stack. takes stack ∙ ap (scan d (some_attrs ∷ stack)) prefix;
    }
