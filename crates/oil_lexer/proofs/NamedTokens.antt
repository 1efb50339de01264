-- The names among the tokens of a text are names.
use Rattle.std.proofs.Common.{◌≡◌, ℕ, inl, inr, true, List, [], ◌∷◌, take, sym, subst}
use Rattle.std.specs.Prelude.{⊤, IsTrue, slice_index}
use Rattle.osek_values.specs.Names.{is_word, is_name}
use Rattle.oil_lexer.specs.declared.classes.Class.{Class, TheVariants.{Blank, Letter, Digit, Quote, Slash, Single, Nothing}}
use Rattle.oil_lexer.specs.{declared.token.{TokenKind.{TokenKind, TheVariants.{Name, Number, Text, Mark}}, Token.{Token}, Piece.TheVariants.{Whole}}, Classes.{class_of}}
use Rattle.oil_lexer.specs.{Pieces.{IsOf, IsLongest, Fits}, Text.{Parts, none, gap, token, AreTokens}}
use Rattle.oil_lexer.proofs.Longest.{word_is_name}

abbrev pub IsNamed : TokenKind → Type 0
IsNamed (Name n) = IsTrue (is_name n)
IsNamed _ = ⊤

abbrev pub AreNamed : List Token → Type 0
AreNamed [] = ⊤
AreNamed (t ∷ tokens) = IsNamed t.kind × AreNamed tokens

of_class : (class : Class) (n : List ℕ) (bytes : List ℕ) (len : ℕ) → IsOf class (Whole (Name n)) bytes len → is_word n ≡ true
of_class Blank n bytes len is = let e = is.0 in absurd (cc e)
of_class Letter n bytes len is = let e : n ≡ take len bytes = let whole = is.0 in cc whole in subst (λ (w : List ℕ). is_word w ≡ true) (sym e) is.1
of_class Digit n bytes len (inl is) = let e = is.0 in absurd (cc e)
of_class Digit n bytes len (inr is) = let e = is.0 in absurd (cc e)
of_class Quote n bytes len is = let e = is.0 in absurd (cc e)
of_class Slash n bytes len is = let e = is.0 in absurd (cc e)
of_class (Single mark) n bytes len is = let e = is.0 in absurd (cc e)
of_class Nothing n bytes len is = absurd is

kind_named : (kind : TokenKind) (bytes : List ℕ) (len : ℕ) → IsLongest (Whole kind) bytes len → Fits (Whole kind) → IsNamed kind
kind_named (Name n) bytes len longest fits = word_is_name n (of_class (class_of (slice_index bytes 0)) n bytes len longest.piece_is.is) fits
kind_named (Number v) bytes len longest fits = tt
kind_named (Text t) bytes len longest fits = tt
kind_named (Mark m) bytes len longest fits = tt

parts_named : {last : ℕ} {rest : List ℕ} {line : ℕ} {bytes : List ℕ} {tokens : List Token} → Parts last rest line bytes tokens → AreNamed tokens
parts_named none = tt
parts_named (gap n longest more) = parts_named more
parts_named (token kind n longest fits more) = (kind_named kind _ n longest fits, parts_named more)

pub are_named : (bytes : List ℕ) (tokens : List Token) → AreTokens bytes tokens → AreNamed tokens
are_named bytes tokens are = parts_named are.parts.1
