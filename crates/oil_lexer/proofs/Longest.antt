-- Numbers and names that are as long as they can be.
use Rattle.std.proofs.Common.{◌≡◌, ℕ, ◌+◌, ◌-◌, ◌<◌, ◌≤◌, inl, inr, ⊎_elim, true, false, zero, suc, List, length, take, drop, arith, refl, sym, ◌∙◌, subst}
use Rattle.std.proofs.lemmas.List.{get_or-take, get_or-drop, length-take, length-take-le}
use Rattle.std.specs.{Prelude.{IsTrue, nat_le, slice_index}, Char.{is_ascii_hexdigit}}
use Rattle.osek_values.specs.{Names.{is_digit, is_word, is_name}, declared.limits.TheConstants.{MAX_NAME}}
use Rattle.oil_lexer.specs.declared.classes.{Class.{Class, TheVariants.{Letter, Digit}}, ByteSet.{ByteSet, TheVariants.{NameBytes, Digits, HexDigits}}}
use Rattle.oil_lexer.specs.{declared.token.{TokenKind.TheVariants.{Name, Number}, Piece.{Piece, TheVariants.{Whole}}}, Classes.{class_of, is_in, AllIn}}
use Rattle.oil_lexer.specs.{Fronts.{IsRun, IsLongestHex}, Numbers.{value_of}, Pieces.{part, IsOf, IsPiece, IsLongest, IsHex}}
use Rattle.oil_lexer.proofs.{Firsts.{digit_first, letter_first}, Words.{is_word-take, word_bytes}}

-- what a piece is, at a known class
pub is_of : (class : Class) (piece : Piece) (bytes : List ℕ) (n : ℕ) → class_of (slice_index bytes 0) ≡ class → IsPiece piece bytes n → IsOf class piece bytes n
is_of class piece bytes n e p = subst (λ (k : Class). IsOf k piece bytes n) e p.is

pub to_piece : (class : Class) (piece : Piece) (bytes : List ℕ) (n : ℕ) → class_of (slice_index bytes 0) ≡ class → 0 < n → n ≤ length bytes → IsOf class piece bytes n → IsPiece piece bytes n
to_piece class piece bytes n e nonempty in_range is = record { nonempty = nonempty; in_range = in_range; is = subst (λ (k : Class). IsOf k piece bytes n) (sym e) is }

-- a run ends at most where bytes of its set go on
pub past_run : (set : ByteSet) (bytes : List ℕ) (from end m : ℕ) → IsRun set bytes from end → end < m → m ≤ length bytes → AllIn set bytes from m → ⊥
past_run set bytes from end m run lt le all =
    let here : is_in set (slice_index bytes end) ≡ true = all end run.begins lt in
    let stop : is_in set (slice_index bytes end) ≡ false = run.stops (omega arith) in
    cc

hex_of_digit : (b : ℕ) → is_digit b ≡ true → is_ascii_hexdigit b ≡ true
hex_of_digit b h = grind arith

-- the bytes of a part
pub part_all : (set : ByteSet) (bytes : List ℕ) (from end : ℕ) → AllIn set bytes from end → AllIn set (part bytes from end) 0 (length (part bytes from end))
part_all set bytes from end all k low high =
    let h : length (take (end - from) (drop from bytes)) ≡ _ = length-take (end - from) (drop from bytes) in
    let lt : k < end - from = omega (arith, h) in
    let e : slice_index (part bytes from end) k ≡ slice_index bytes (from + k) = get_or-take (end - from) (drop from bytes) k 0 lt ∙ get_or-drop from bytes k 0 in
    rw e (all (from + k) (omega arith) (omega arith))

-- the first n bytes are a word
pub word_first : (bytes : List ℕ) (n : ℕ) → class_of (slice_index bytes 0) ≡ Letter → IsRun NameBytes bytes 1 n → is_word (take n bytes) ≡ true
word_first bytes n e run = is_word-take bytes n (letter_first (slice_index bytes 0) e) run.begins run.in_range run.all

-- a word that isn't too long
pub word_is_name : (w : List ℕ) → is_word w ≡ true → length w ≤ MAX_NAME → is_name w ≡ true
word_is_name w word short = let fits : nat_le (length w) 64 ≡ true = grind arith in rw word fits

pub is_name-take : (bytes : List ℕ) (n : ℕ) → class_of (slice_index bytes 0) ≡ Letter → IsRun NameBytes bytes 1 n → n ≤ MAX_NAME → is_name (take n bytes) ≡ true
is_name-take bytes n e run le =
    word_is_name (take n bytes) (word_first bytes n e run) (omega (arith, length-take-le n bytes run.in_range))

pub name_longest : (bytes : List ℕ) (n : ℕ) → class_of (slice_index bytes 0) ≡ Letter → IsRun NameBytes bytes 1 n → IsLongest (Whole (Name (take n bytes))) bytes n
name_longest bytes n e run = record {
  piece_is = to_piece Letter _ bytes n e run.begins run.in_range (refl, word_first bytes n e run);
  longest = λ other m lt p. past_run NameBytes bytes 1 n m run lt p.in_range (word_bytes bytes m p.in_range (is_of Letter other bytes m e p).1);
}

pub hex_longest : (bytes : List ℕ) (n : ℕ) → class_of (slice_index bytes 0) ≡ Digit → IsLongestHex bytes n → IsLongest (Whole (Number (value_of 16 (part bytes 2 n)))) bytes n
hex_longest bytes n e hex =
    let long = hex.is_hex.long in
    record {
      piece_is = to_piece Digit _ bytes n e (omega arith) hex.in_range (inr (refl, hex.is_hex));
      longest = λ other m lt p. ⊎_elim
          (λ d. absurd (x_no_digit bytes m hex.is_hex (d.1 1 (omega arith) (omega (arith, lt, long)))))
          (λ h. hex.longest m lt p.in_range h.1)
          (is_of Digit other bytes m e p);
    }
  where
    x_no_digit : (bytes : List ℕ) (m : ℕ) → IsHex bytes n → IsTrue (is_digit (slice_index bytes 1)) → ⊥
    x_no_digit bytes m h d = let x = h.x_second in grind arith

hex_digits : (bytes : List ℕ) (n : ℕ) → class_of (slice_index bytes 0) ≡ Digit → AllIn Digits bytes 1 n → AllIn HexDigits bytes 0 n
hex_digits bytes n e all zero low high = hex_of_digit (slice_index bytes 0) (digit_first (slice_index bytes 0) e)
hex_digits bytes n e all (suc k) low high = hex_of_digit (slice_index bytes (suc k)) (all (suc k) (omega arith) high)

pub decimal_digits : (bytes : List ℕ) (n : ℕ) → class_of (slice_index bytes 0) ≡ Digit → AllIn Digits bytes 1 n → AllIn HexDigits (take n bytes) 0 (length (take n bytes))
decimal_digits bytes n e all k low high =
    let h : length (take n bytes) ≡ _ = length-take n bytes in
    let lt : k < n = omega (arith, h) in
    let same : slice_index (take n bytes) k ≡ slice_index bytes k = get_or-take n bytes k 0 lt in
    rw same (hex_digits bytes n e all k low lt)

pub decimal_longest : (bytes : List ℕ) (n : ℕ) → class_of (slice_index bytes 0) ≡ Digit → ((m : ℕ) → m ≤ length bytes → IsHex bytes m → ⊥) → IsRun Digits bytes 1 n → IsLongest (Whole (Number (value_of 10 (take n bytes)))) bytes n
decimal_longest bytes n e no_hex run = record {
  piece_is = to_piece Digit _ bytes n e run.begins run.in_range (inl (refl, run.all));
  longest = λ other m lt p. ⊎_elim (λ d. past_run Digits bytes 1 n m run lt p.in_range d.1) (λ h. no_hex m p.in_range h.1) (is_of Digit other bytes m e p);
}
