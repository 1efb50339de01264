-- Phrases from the tokens that were read.
use Rattle.std.proofs.Common.{◌≡◌, ℕ, List, ◌∷◌, sym, ap, ◌∙◌, subst}
use Rattle.oil_lexer.specs.declared.token.{TokenKind.{TokenKind, TheVariants.{Name, Number, Text, Mark}}, Mark.{Mark as MarkType, TheVariants.{Semicolon, Colon, Plus as plus_mark, Minus as minus_mark}}, Token.{Token}}
use Rattle.oil_tree.specs.declared.tree.{Value.TheVariants.{Word, Quoted, Numeric}, Sign.TheVariants.{Bare, Plus, Minus}}
use Rattle.oil_lexer.{specs.Tokens.{number, text, mark}, proofs.Braces.{front_is}}
use Rattle.oil_tree.specs.Grammar.{IsValue, is_name, is_text, is_number, is_plus, is_minus, IsEnd, plain, described}

pub mark_head : (t : Token) (m m' : MarkType) (ts rest : List Token) → ts ≡ t ∷ rest → t.kind ≡ Mark m → m ≡ m' → ts ≡ mark m' t.line ∷ rest
mark_head t m m' ts rest e k s = front_is t (Mark m') ts rest e (k ∙ ap Mark s)

pub value_word : (t : Token) (n w : List ℕ) (ts rest : List Token) → ts ≡ t ∷ rest → t.kind ≡ Name n → w ≡ n → IsValue (Word w) ts rest
value_word t n w ts rest e k s = subst (λ (x : List Token). IsValue (Word w) x rest) (sym (front_is t (Name w) ts rest e (k ∙ ap Name (sym s)))) is_name

pub value_quoted : (t : Token) (n w : List ℕ) (ts rest : List Token) → ts ≡ t ∷ rest → t.kind ≡ Text n → w ≡ n → IsValue (Quoted w) ts rest
value_quoted t n w ts rest e k s = subst (λ (x : List Token). IsValue (Quoted w) x rest) (sym (front_is t (Text w) ts rest e (k ∙ ap Text (sym s)))) is_text

pub value_number : (t : Token) (v : ℕ) (ts rest : List Token) → ts ≡ t ∷ rest → t.kind ≡ Number v → IsValue (Numeric Bare v) ts rest
value_number t v ts rest e k = subst (λ (x : List Token). IsValue (Numeric Bare v) x rest) (sym (front_is t (Number v) ts rest e k)) is_number

pub value_plus : (t : Token) (m : MarkType) (v l : ℕ) (ts a rest : List Token) → ts ≡ t ∷ a → t.kind ≡ Mark m → m ≡ plus_mark → a ≡ number v l ∷ rest → IsValue (Numeric Plus v) ts rest
value_plus t m v l ts a rest e k s n = subst (λ (x : List Token). IsValue (Numeric Plus v) x rest) (sym (mark_head t m plus_mark ts a e k s ∙ ap (λ (x : List Token). mark plus_mark t.line ∷ x) n)) is_plus

pub value_minus : (t : Token) (m : MarkType) (v l : ℕ) (ts a rest : List Token) → ts ≡ t ∷ a → t.kind ≡ Mark m → m ≡ minus_mark → a ≡ number v l ∷ rest → IsValue (Numeric Minus v) ts rest
value_minus t m v l ts a rest e k s n = subst (λ (x : List Token). IsValue (Numeric Minus v) x rest) (sym (mark_head t m minus_mark ts a e k s ∙ ap (λ (x : List Token). mark minus_mark t.line ∷ x) n)) is_minus

pub end_plain : (t : Token) (m : MarkType) (ts rest : List Token) → ts ≡ t ∷ rest → t.kind ≡ Mark m → m ≡ Semicolon → IsEnd ts rest
end_plain t m ts rest e k s = subst (λ (x : List Token). IsEnd x rest) (sym (mark_head t m Semicolon ts rest e k s)) plain

pub end_described : (t : Token) (m : MarkType) (w : List ℕ) (l l' : ℕ) (ts a b rest : List Token) → ts ≡ t ∷ a → t.kind ≡ Mark m → m ≡ Colon → a ≡ text w l ∷ b → b ≡ mark Semicolon l' ∷ rest → IsEnd ts rest
end_described t m w l l' ts a b rest e k s x y = subst (λ (z : List Token). IsEnd z rest) (sym (mark_head t m Colon ts a e k s ∙ ap (λ (z : List Token). mark Colon t.line ∷ z) (x ∙ ap (λ (z : List Token). text w l ∷ z) y))) described
