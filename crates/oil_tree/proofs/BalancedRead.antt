-- What the scan does at tokens whose braces balance.
use Rattle.std.proofs.Common.{◌≡◌, ℕ, ◌+◌, ◌-◌, ◌<◌, true, false, List, ◌∷◌, length, refl, sym, ap, ◌∙◌, subst, arith}
use Rattle.oil_lexer.specs.declared.token.{TokenKind.{TokenKind, TheVariants.{Name, Number, Text, Mark}}, Mark.TheVariants.{OpenBrace, CloseBrace}, Token.{Token}}
use Rattle.oil_lexer.specs.Tokens.{mark, is_open, is_close}
use Rattle.oil_tree.specs.Grammar.{IsBalanced, closed, braces, other}
use Rattle.osek_values.specs.declared.limits.TheConstants.{MAX_OIL_DEPTH}
use Rattle.oil_tree.specs.{Expect.{some_balanced, Stack, scan}, Phrases.{ReadsBalanced}}
use Rattle.oil_lexer.proofs.Braces.{open_kind, close_kind, front_is, shallow}

shorter_balanced : {ts rest : List Token} → IsBalanced ts rest → length rest < length ts
shorter_balanced closed = omega arith
shorter_balanced (braces a b) = omega (arith, shorter_balanced a, shorter_balanced b)
shorter_balanced (other o c more) = omega (arith, shorter_balanced more)

pub balanced_shorter : (d : ℕ) (t : Token) (rest after left : List Token) → rest ≡ t ∷ after → ReadsBalanced d after left → length left < length rest
balanced_shorter d t rest after left e r = let lengths = ap length e in omega (arith, lengths, shorter_balanced r.is_balanced)

pub reads_balanced : (t : Token) (d : ℕ) (tokens rest after : List Token) → ((last : List Token) → IsBalanced rest last → IsBalanced tokens last) → ((stack : Stack) → scan d (some_balanced ∷ stack) tokens ≡ scan d (some_balanced ∷ stack) rest) → rest ≡ t ∷ after → is_close t.kind ≡ true → ReadsBalanced d tokens after
reads_balanced t d tokens rest after joins takes e c =
    let prefix : rest ≡ mark CloseBrace t.line ∷ after = front_is t (Mark CloseBrace) rest after e (close_kind t.kind c) in
    record {
      is_balanced = joins after (subst (λ (x : List Token). IsBalanced x after) (sym prefix) closed);
      takes = λ stack. takes stack ∙ ap (scan d (some_balanced ∷ stack)) prefix;
    }

other_kind : (kind : TokenKind) (line d : ℕ) (stack : Stack) (ts : List Token) → is_open kind ≡ false → is_close kind ≡ false → scan d (some_balanced ∷ stack) (record { kind = kind; line = line } ∷ ts) ≡ scan d (some_balanced ∷ stack) ts
other_kind (Name n) line d stack ts o c = refl
other_kind (Number n) line d stack ts o c = refl
other_kind (Text n) line d stack ts o c = refl
other_kind (Mark OpenBrace) line d stack ts o c = absurd cc
other_kind (Mark CloseBrace) line d stack ts o c = absurd cc
other_kind (Mark _) line d stack ts o c = refl

pub other_taken : (t : Token) (d : ℕ) (stack : Stack) (ts tokens : List Token) → tokens ≡ t ∷ ts → is_open t.kind ≡ false → is_close t.kind ≡ false → scan d (some_balanced ∷ stack) tokens ≡ scan d (some_balanced ∷ stack) ts
other_taken t d stack ts tokens e o c = ap (scan d (some_balanced ∷ stack)) e ∙ other_kind t.kind t.line d stack ts o c

pub other_joins : (t : Token) (ts tokens last : List Token) → tokens ≡ t ∷ ts → is_open t.kind ≡ false → is_close t.kind ≡ false → IsBalanced ts last → IsBalanced tokens last
other_joins t ts tokens last e o c more = subst (λ (x : List Token). IsBalanced x last) (sym e) (other o c more)

open_taken : (d l : ℕ) (stack : Stack) (ts : List Token) → d < MAX_OIL_DEPTH → scan d (some_balanced ∷ stack) (mark OpenBrace l ∷ ts) ≡ scan (d + 1) (some_balanced ∷ (some_balanced ∷ stack)) ts
open_taken d l stack ts h = shallow MAX_OIL_DEPTH d _ _ h

-- one pair of braces
pub braces_taken : (t : Token) (d : ℕ) (stack : Stack) (ts tokens rest : List Token) → tokens ≡ t ∷ ts → is_open t.kind ≡ true → d < MAX_OIL_DEPTH → ReadsBalanced (d + 1) ts rest → scan d (some_balanced ∷ stack) tokens ≡ scan d (some_balanced ∷ stack) rest
braces_taken t d stack ts tokens rest e o h r =
    let prefix : tokens ≡ mark OpenBrace t.line ∷ ts = front_is t (Mark OpenBrace) tokens ts e (open_kind t.kind o) in
    let back : d + 1 - 1 ≡ d = omega arith in
    ap (scan d (some_balanced ∷ stack)) prefix ∙ open_taken d t.line stack ts h ∙ r.takes (some_balanced ∷ stack) ∙ ap (λ n. scan n (some_balanced ∷ stack) rest) back

pub braces_join : (t : Token) (d : ℕ) (ts tokens rest last : List Token) → tokens ≡ t ∷ ts → is_open t.kind ≡ true → ReadsBalanced d ts rest → IsBalanced rest last → IsBalanced tokens last
braces_join t d ts tokens rest last e o r more =
    let prefix : tokens ≡ mark OpenBrace t.line ∷ ts = front_is t (Mark OpenBrace) tokens ts e (open_kind t.kind o) in
    subst (λ (x : List Token). IsBalanced x last) (sym prefix) (braces r.is_balanced more)
