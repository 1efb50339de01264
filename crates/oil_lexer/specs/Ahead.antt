-- The tokens that are ahead in a text.
use Rattle.std.specs.{Prelude.{◌≡◌, ℕ, List, []}, Coded.{Coded, Coded-set, codes}}
use mathlib.Core.Logic.{∥∥₁_elim}
use mathlib.Core.HLevel.{Σ_prop_path}
use Rattle.oil_lexer.specs.{declared.token.Token.{Token}, Text.{Parts}}

-- from a line on the bytes are parted into blanks, comments and these tokens, to their end
abbrev pub AreAhead : ℕ → List ℕ → List Token → Type 0
AreAhead line bytes tokens = (last : ℕ) × Parts last [] line bytes tokens

-- and into no others
pub record AreOnly (line : ℕ) (bytes : List ℕ) (tokens : List Token) : Type 0 where
  pub ahead : ∥ AreAhead line bytes tokens ∥₁
  pub only : (other : List Token) → AreAhead line bytes other → tokens ≡ other

-- the tokens that are ahead
abbrev pub Ahead : ℕ → List ℕ → Type 0
Ahead line bytes = (tokens : List Token) × AreOnly line bytes tokens

pub tokens_set : IsSet (List Token)
tokens_set = let code : Coded (List Token) = hlevel codes in Coded-set code

pub Ahead-prop : (line : ℕ) (bytes : List ℕ) → IsProp (Ahead line bytes)
Ahead-prop line bytes a b =
    Σ_prop_path (λ tokens. hlevel tokens_set) (∥∥₁_elim b.1.ahead (tokens_set a.0 b.0) (λ p. a.1.only b.0 p))
