-- Braces at the front, and whether they are nested too deeply.
use Rattle.std.proofs.Common.{◌≡◌, ℕ, ◌<◌, ◌≤◌, true, false, cond, List, ◌∷◌, refl, ◌∙◌, arith}
use Rattle.std.specs.Prelude.{Option, nat_le}
use Rattle.std.proofs.lemmas.Bool.Decides.{nat_tests}
use Rattle.oil_lexer.specs.declared.token.{TokenKind.{TokenKind, TheVariants.{Name, Number, Text, Mark}}, Mark.TheVariants.{OpenBrace, CloseBrace}, Token.{Token}}
use Rattle.oil_lexer.specs.{declared.fault.Stop.{Stop}, Tokens.{is_open, is_close}}

pub open_kind : (kind : TokenKind) → is_open kind ≡ true → kind ≡ Mark OpenBrace
open_kind (Name n) e = absurd cc
open_kind (Number n) e = absurd cc
open_kind (Text n) e = absurd cc
open_kind (Mark OpenBrace) e = refl
open_kind (Mark _) e = absurd cc

pub close_kind : (kind : TokenKind) → is_close kind ≡ true → kind ≡ Mark CloseBrace
close_kind (Name n) e = absurd cc
close_kind (Number n) e = absurd cc
close_kind (Text n) e = absurd cc
close_kind (Mark CloseBrace) e = refl
close_kind (Mark _) e = absurd cc

-- a token of a known kind at the front
pub front_is : (t : Token) (kind : TokenKind) (tokens rest : List Token) → tokens ≡ t ∷ rest → t.kind ≡ kind → tokens ≡ record { kind = kind; line = t.line } ∷ rest
front_is t kind tokens rest e k = e ∙ (λ i. record { kind = k i; line = t.line } ∷ rest)

-- a brace within the limit
pub shallow : (limit d : ℕ) (go stop : Option Stop) → d < limit → cond (nat_le limit d) stop go ≡ go
shallow limit d go stop h = let t : nat_le limit d ≡ false = grind (arith, nat_tests) in rw t refl

-- a brace too deep
pub deep : (limit d : ℕ) (go stop : Option Stop) → limit ≤ d → cond (nat_le limit d) stop go ≡ stop
deep limit d go stop h = let t : nat_le limit d ≡ true = grind (arith, nat_tests) in rw t refl
