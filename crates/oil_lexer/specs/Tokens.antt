-- Tokens by their kinds.
use Rattle.std.specs.Prelude.{ℕ, List, [], ◌∷◌, Bool, true, false}
use Rattle.oil_lexer.specs.declared.token.{TokenKind.{TokenKind, TheVariants.{Name, Number, Text, Mark}}, Mark.{Mark as MarkType, TheVariants.{OpenBrace, CloseBrace}}, Token.{Token}}

abbrev pub name : List ℕ → ℕ → Token
name n line = record { kind = Name n; line = line }

abbrev pub number : ℕ → ℕ → Token
number v line = record { kind = Number v; line = line }

abbrev pub text : List ℕ → ℕ → Token
text t line = record { kind = Text t; line = line }

abbrev pub mark : MarkType → ℕ → Token
mark m line = record { kind = Mark m; line = line }

abbrev pub is_open : TokenKind → Bool
is_open (Mark OpenBrace) = true
is_open _ = false

abbrev pub is_close : TokenKind → Bool
is_close (Mark CloseBrace) = true
is_close _ = false

-- the line of the last token, or the one given
abbrev pub last_line : ℕ → List Token → ℕ
last_line line [] = line
last_line line (t ∷ ts) = last_line t.line ts
