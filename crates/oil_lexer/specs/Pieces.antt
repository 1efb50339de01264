-- What stands at the front of a text: a blank, a comment or a token (ISO 17356-6, lexical rules), and the rules that a
-- prefix breaks.
use Rattle.std.specs.Prelude.{◌≡◌, ℕ, ◌-◌, ◌<◌, ◌≤◌, ◌^◌, ◌⊎◌, ⊤, Bool, ◌||◌, ◌==◌, List, length, take, drop, IsTrue, slice_index}
use Rattle.osek_values.specs.{Names.{is_word}, declared.{limits.TheConstants.{MAX_NAME}, refusal.LexRule.{LexRule, TheVariants.{L1, L2, L3, L4, L5, L6}}}}
use Rattle.oil_lexer.specs.declared.classes.{Class.{Class, TheVariants.{Blank, Letter, Digit, Quote, Slash, Single, Nothing}}, ByteSet.TheVariants.{Digits, HexDigits, TextBytes, LineBytes}}
use Rattle.oil_lexer.specs.{declared.token.{TokenKind.TheVariants.{Name, Number, Text, Mark}, Piece.{Piece, TheVariants.{Gap, Whole}}}, Classes.{class_of, AllIn}}
use Rattle.oil_lexer.specs.Numbers.{value_of}

abbrev pub is_x : ℕ → Bool
is_x b = b == 120 || b == 88

-- the bytes from one place up to another
abbrev pub part : List ℕ → ℕ → ℕ → List ℕ
part bytes from end = take (end - from) (drop from bytes)

-- the first n bytes are // and bytes of one line
pub record IsLineComment (bytes : List ℕ) (n : ℕ) : Type 0 where
  pub opens : slice_index bytes 1 ≡ 47
  pub long : 2 ≤ n
  pub body : AllIn LineBytes bytes 2 n

-- a */ that isn't the start of the comment ends at a place
abbrev pub ClosesAt : List ℕ → ℕ → Type 0
ClosesAt bytes end = (4 ≤ end) × (slice_index bytes (end - 2) ≡ 42) × (slice_index bytes (end - 1) ≡ 47)

-- the first n bytes are /*, and the first */ behind it ends there: comments don't nest
pub record IsBlockComment (bytes : List ℕ) (n : ℕ) : Type 0 where
  pub opens : slice_index bytes 1 ≡ 42
  pub closes : ClosesAt bytes n
  pub first : (k : ℕ) → k < n → ClosesAt bytes k → ⊥

-- the first n bytes are 0x or 0X and hexadecimal digits
pub record IsHex (bytes : List ℕ) (n : ℕ) : Type 0 where
  pub zero_first : slice_index bytes 0 ≡ 48
  pub x_second : IsTrue (is_x (slice_index bytes 1))
  pub long : 2 < n
  pub digits : AllIn HexDigits bytes 2 n

-- the first n bytes are a quotation mark, bytes of one line and a quotation mark
pub record IsQuoted (bytes : List ℕ) (n : ℕ) : Type 0 where
  pub long : 2 ≤ n
  pub body : AllIn TextBytes bytes 1 (n - 1)
  pub closes : slice_index bytes (n - 1) ≡ 34

-- what the first n bytes are, by what the first of them begins
abbrev pub IsOf : Class → Piece → List ℕ → ℕ → Type 0
IsOf Blank piece bytes n = (piece ≡ Gap) × (n ≡ 1)
IsOf Letter piece bytes n = (piece ≡ Whole (Name (take n bytes))) × IsTrue (is_word (take n bytes))
IsOf Digit piece bytes n =
    ((piece ≡ Whole (Number (value_of 10 (take n bytes)))) × AllIn Digits bytes 1 n)
    ⊎ ((piece ≡ Whole (Number (value_of 16 (part bytes 2 n)))) × IsHex bytes n)
IsOf Quote piece bytes n = (piece ≡ Whole (Text (part bytes 1 (n - 1)))) × IsQuoted bytes n
IsOf Slash piece bytes n = (piece ≡ Gap) × (IsLineComment bytes n ⊎ IsBlockComment bytes n)
IsOf (Single mark) piece bytes n = (piece ≡ Whole (Mark mark)) × (n ≡ 1)
IsOf Nothing piece bytes n = ⊥

-- the first n bytes are a blank, a comment or a token
pub record IsPiece (piece : Piece) (bytes : List ℕ) (n : ℕ) : Type 0 where
  pub nonempty : 0 < n
  pub in_range : n ≤ length bytes
  pub is : IsOf (class_of (slice_index bytes 0)) piece bytes n

-- and no more of them are any
pub record IsLongest (piece : Piece) (bytes : List ℕ) (n : ℕ) : Type 0 where
  pub piece_is : IsPiece piece bytes n
  pub longest : (other : Piece) (m : ℕ) → n < m → IsPiece other bytes m → ⊥

-- no blank, comment or token begins here
abbrev pub NoPiece : List ℕ → Type 0
NoPiece bytes = (piece : Piece) (n : ℕ) → IsPiece piece bytes n → ⊥

abbrev pub OpensComment : List ℕ → Type 0
OpensComment bytes = (slice_index bytes 0 ≡ 47) × (slice_index bytes 1 ≡ 42)

abbrev pub OpensText : List ℕ → Type 0
OpensText bytes = slice_index bytes 0 ≡ 34

-- a number is at most 2^64-1, and a name has at most 64 bytes (this project's profile)
abbrev pub Fits : Piece → Type 0
Fits (Whole (Number v)) = v < 2 ^ 64
Fits (Whole (Name name)) = length name ≤ MAX_NAME
Fits _ = ⊤

-- the front of a text breaks a rule on tokens (this project's profile): no token begins here; a comment isn't closed; a
-- text isn't closed on its line; a number above 2^64-1; a name over 64 bytes. L6 is about a text as a whole.
abbrev pub Breaks : LexRule → List ℕ → Type 0
Breaks L1 bytes = NoPiece bytes × ¬ (OpensComment bytes) × ¬ (OpensText bytes)
Breaks L2 bytes = NoPiece bytes × OpensComment bytes
Breaks L3 bytes = NoPiece bytes × OpensText bytes
Breaks L4 bytes = (v n : ℕ) × IsLongest (Whole (Number v)) bytes n × (2 ^ 64 ≤ v)
Breaks L5 bytes = (name : List ℕ) × (n : ℕ) × IsLongest (Whole (Name name)) bytes n × (MAX_NAME < length name)
Breaks L6 bytes = ⊥
