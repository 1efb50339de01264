-- The tokens of a text with their lines, and its first fault (ISO 17356-6, lexical rules; the rules on tokens and the
-- limit are this project's profile).
use Rattle.std.specs.Prelude.{◌≡◌, ◌≢◌, ℕ, ◌+◌, ◌<◌, ◌≤◌, ◌==◌, ◌⊎◌, List, [], ◌∷◌, length, take, drop, count_by}
use Rattle.osek_values.specs.declared.{limits.TheConstants.{MAX_FILE}, refused.LineFault.{LineFault}, refusal.LexRule.{LexRule, TheVariants.{L6}}}
use Rattle.oil_lexer.specs.{declared.token.{TokenKind.{TokenKind}, Piece.{Piece, TheVariants.{Gap, Whole}}, Token.{Token}}, Pieces.{IsLongest, Fits, Breaks}}

-- how many lines end in these bytes: each LF ends one
abbrev pub line_ends : List ℕ → ℕ
line_ends bytes = count_by (λ b. b == 10) bytes

abbrev pub token_of : TokenKind → ℕ → Token
token_of kind line = record { kind = kind; line = line }

-- the tokens of a piece that begins on a line: none or one
abbrev pub tokens_of : Piece → ℕ → List Token
tokens_of Gap line = []
tokens_of (Whole kind) line = token_of kind line ∷ []

-- From a line on the bytes are parted into blanks, comments and tokens, each the longest that begins at its place, up
-- to a rest that begins on another line.
pub data Parts (last : ℕ) (rest : List ℕ) : ℕ → List ℕ → List Token → Type 0 where
  none : Parts last rest last rest []
  gap : {line : ℕ} {bytes : List ℕ} {tokens : List Token} (n : ℕ) → IsLongest Gap bytes n → Parts last rest (line + line_ends (take n bytes)) (drop n bytes) tokens → Parts last rest line bytes tokens
  token : {line : ℕ} {bytes : List ℕ} {tokens : List Token} (kind : TokenKind) (n : ℕ) → IsLongest (Whole kind) bytes n → Fits (Whole kind) → Parts last rest (line + line_ends (take n bytes)) (drop n bytes) tokens → Parts last rest line bytes (token_of kind line ∷ tokens)

-- the tokens of a text, whose lines count from 1
pub record AreTokens (bytes : List ℕ) (tokens : List Token) : Type 0 where
  pub within : length bytes ≤ MAX_FILE
  pub parts : (last : ℕ) × Parts last [] 1 bytes tokens

-- behind whole tokens, blanks and comments the rest of the text breaks the rule, on its line
pub record FaultsAt (bytes : List ℕ) (fault : LineFault LexRule) : Type 0 where
  pub within : length bytes ≤ MAX_FILE
  pub found : (rest : List ℕ) × (tokens : List Token) × Parts fault.line rest 1 bytes tokens × (rest ≢ []) × Breaks fault.rule rest

-- the first fault of a text: that it is over the limit, before all else
abbrev pub IsFirstFault : List ℕ → LineFault LexRule → Type 0
IsFirstFault bytes fault = ((MAX_FILE < length bytes) × (fault ≡ record { line = 0; rule = L6 })) ⊎ FaultsAt bytes fault
