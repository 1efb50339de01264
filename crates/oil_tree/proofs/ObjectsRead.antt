-- What the scan does at objects that were read.
use Rattle.std.proofs.{Common.{◌≡◌, ℕ, true, false, List, [], ◌∷◌, ◌++◌, length, refl, sym, ap, ◌∙◌, subst, arith}, lemmas.List.{append-nil}}
use Rattle.oil_lexer.specs.declared.token.{TokenKind.{TokenKind, TheVariants.{Name, Number, Text, Mark}}, Mark.TheVariants.{CloseBrace}, Token.{Token}}
use Rattle.oil_tree.specs.{declared.tree.Object.{Object}, Attrs.{Attrs}}
use Rattle.oil_lexer.specs.Tokens.{name, mark, is_close}
use Rattle.oil_tree.specs.{Grammar.{IsObjects, no_objects, one_object}, Expect.{some_objects, Stack, scan}, Phrases.{object_phrases, ReadsBody, ReadsObject, ReadsObjects}}
use Rattle.oil_lexer.proofs.Braces.{close_kind, front_is}
use Rattle.oil_tree.proofs.Ends.{shorter_body}

not_close_kind : (kind : TokenKind) (line : ℕ) (stack : Stack) (ts : List Token) → is_close kind ≡ false → scan 1 (some_objects ∷ stack) (record { kind = kind; line = line } ∷ ts) ≡ scan 1 (object_phrases ++ some_objects ∷ stack) (record { kind = kind; line = line } ∷ ts)
not_close_kind (Name n) line stack ts e = refl
not_close_kind (Number n) line stack ts e = refl
not_close_kind (Text n) line stack ts e = refl
not_close_kind (Mark CloseBrace) line stack ts e = absurd cc
not_close_kind (Mark _) line stack ts e = refl

pub one_object_more : (t : Token) (stack : Stack) (ts tokens : List Token) → tokens ≡ t ∷ ts → is_close t.kind ≡ false → scan 1 (some_objects ∷ stack) tokens ≡ scan 1 (object_phrases ++ some_objects ∷ stack) tokens
one_object_more t stack ts tokens e c = rw e (not_close_kind t.kind t.line stack ts c)

pub reads_object : (l l' : ℕ) (k k' n n' : List ℕ) (attrs : Attrs) (tokens r1 r2 rest : List Token) → tokens ≡ name k l ∷ r1 → r1 ≡ name n l' ∷ r2 → ReadsBody 1 r2 attrs rest → k' ≡ k → n' ≡ n → ReadsObject tokens (record { kind = k'; line = l; name = n'; attrs = attrs }) rest
reads_object l l' k k' n n' attrs tokens r1 r2 rest e1 e2 body sk sn =
    let prefix : tokens ≡ name k' l ∷ (name n' l' ∷ r2) = e1 ∙ (λ i. name (sym sk i) l ∷ (e2 ∙ (λ j. name (sym sn j) l' ∷ r2)) i) in
    record {
      joins = λ next last more. subst (λ (x : List Token). IsObjects (record { kind = k'; line = l; name = n'; attrs = attrs } ∷ next) x last) (sym prefix) (one_object body.is_body more);
      takes = λ stack. ap (scan 1 (object_phrases ++ stack)) prefix ∙ body.takes stack;
      shorter = let lengths = ap length prefix in omega (arith, lengths, shorter_body body.is_body);
    }

pub reads_objects : (t : Token) (items objects : List Object) (tokens rest after : List Token) → ((next : List Object) (last : List Token) → IsObjects next rest last → IsObjects (items ++ next) tokens last) → ((stack : Stack) → scan 1 (some_objects ∷ stack) tokens ≡ scan 1 (some_objects ∷ stack) rest) → rest ≡ t ∷ after → is_close t.kind ≡ true → objects ≡ items → ReadsObjects tokens objects after
reads_objects t items objects tokens rest after joins takes e c same =
    let prefix : rest ≡ mark CloseBrace t.line ∷ after = front_is t (Mark CloseBrace) rest after e (close_kind t.kind c) in
    record {
      are_objects = subst (λ (o : List Object). IsObjects o tokens after) (append-nil items ∙ sym same) (joins [] after (subst (λ (x : List Token). IsObjects [] x after) (sym prefix) no_objects));
      takes = λ stack. takes stack ∙ ap (scan 1 (some_objects ∷ stack)) prefix;
    }
