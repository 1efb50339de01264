-- What the parts of the reader find at the front of a text.
use Rattle.std.specs.Prelude.{◌≡◌, ℕ, ◌+◌, ◌<◌, ◌≤◌, ◌^◌, false, List, length, take, drop, slice_index, Option, SomeIff, Result, Ok, Err}
use Rattle.oil_lexer.specs.declared.{classes.ByteSet.{ByteSet}, token.{TokenKind.TheVariants.{Number}, Piece.{Piece, TheVariants.{Whole}}}}
use Rattle.osek_values.specs.declared.refusal.LexRule.{LexRule}
use Rattle.oil_lexer.specs.{Classes.{is_in, AllIn}, Pieces.{ClosesAt, IsHex, IsLongest, Fits, Breaks}, Text.{Parts, line_ends, tokens_of}}

-- the bytes from one place up to another are in the set, and the next byte, if there is one, isn't
pub record IsRun (set : ByteSet) (bytes : List ℕ) (from end : ℕ) : Type 0 where
  pub begins : from ≤ end
  pub in_range : end ≤ length bytes
  pub all : AllIn set bytes from end
  pub stops : end < length bytes → is_in set (slice_index bytes end) ≡ false

-- the first */ behind /* ends there
pub record IsFirstClose (bytes : List ℕ) (n : ℕ) : Type 0 where
  pub in_range : n ≤ length bytes
  pub closes : ClosesAt bytes n
  pub first : (k : ℕ) → k < n → ClosesAt bytes k → ⊥

-- the hexadecimal number at the front is as long as it can be
pub record IsLongestHex (bytes : List ℕ) (n : ℕ) : Type 0 where
  pub in_range : n ≤ length bytes
  pub is_hex : IsHex bytes n
  pub longest : (m : ℕ) → n < m → m ≤ length bytes → IsHex bytes m → ⊥

-- the front is a number of this length, and the value where that fits
abbrev pub IsNumber : List ℕ → ℕ → Option ℕ → Type 0
IsNumber bytes n value = (v : ℕ) × IsLongest (Whole (Number v)) bytes n × SomeIff value (v < 2 ^ 64) v

-- the piece of the front and its length, or the rule that the front breaks
abbrev pub IsFront : Result (Piece × ℕ) LexRule → List ℕ → Type 0
IsFront (Ok (piece, n)) bytes = IsLongest piece bytes n × Fits piece
IsFront (Err rule) bytes = Breaks rule bytes

-- from whatever line on, the first n bytes are parted into the tokens of the piece
pub record ArePieces (piece : Piece) (bytes : List ℕ) (n : ℕ) : Type 0 where
  pub nonempty : 0 < n
  pub in_range : n ≤ length bytes
  pub parts : (line : ℕ) → Parts (line + line_ends (take n bytes)) (drop n bytes) line bytes (tokens_of piece line)

-- the tokens of the first bytes, and how many bytes these are, or the rule that the front breaks
abbrev pub AreFirst : Result (Piece × ℕ) LexRule → List ℕ → Type 0
AreFirst (Ok (piece, n)) bytes = ArePieces piece bytes n
AreFirst (Err rule) bytes = Breaks rule bytes
