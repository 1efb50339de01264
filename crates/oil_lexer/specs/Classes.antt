-- Bytes by what they begin, and by what they go on with (ISO 17356-6, lexical rules; the marks and the blanks are this
-- project's profile).
use Rattle.std.specs.{Prelude.{ℕ, ◌<◌, ◌≤◌, Bool, not, ◌&&◌, ◌||◌, ◌==◌, if◌then◌else◌, List, IsTrue, slice_index, Option, Some, None}, Char.{is_ascii_hexdigit}}
use Rattle.osek_values.specs.Names.{is_letter, is_digit, is_name_byte}
use Rattle.oil_lexer.specs.declared.classes.{Class.{Class, TheVariants.{Blank, Letter, Digit, Quote, Slash, Single, Nothing}}, ByteSet.{ByteSet, TheVariants.{Blanks, NameBytes, Digits, HexDigits, TextBytes, LineBytes}}}
use Rattle.oil_lexer.specs.declared.token.Mark.{Mark, TheVariants.{OpenBrace, CloseBrace, OpenParen, CloseParen, OpenBracket, CloseBracket, Equals, Semicolon, Colon, Comma, Period, Question, Bar, Plus, Minus}}

-- space, tab, CR, LF and form feed
abbrev pub is_blank : ℕ → Bool
is_blank b = b == 32 || b == 9 || b == 13 || b == 10 || b == 12

-- the mark that a byte is: { } ( ) [ ] = ; : , . ? | + -
abbrev pub mark_of : ℕ → Option Mark
mark_of b =
    if b == 123 then Some OpenBrace
    else (if b == 125 then Some CloseBrace
    else (if b == 40 then Some OpenParen
    else (if b == 41 then Some CloseParen
    else (if b == 91 then Some OpenBracket
    else (if b == 93 then Some CloseBracket
    else (if b == 61 then Some Equals
    else (if b == 59 then Some Semicolon
    else (if b == 58 then Some Colon
    else (if b == 44 then Some Comma
    else (if b == 46 then Some Period
    else (if b == 63 then Some Question
    else (if b == 124 then Some Bar
    else (if b == 43 then Some Plus
    else (if b == 45 then Some Minus
    else None))))))))))))))

abbrev pub class_of_mark : Option Mark → Class
class_of_mark (Some mark) = Single mark
class_of_mark None = Nothing

-- what a byte begins: a blank, a name, a number, a text, a comment or a mark, or nothing at all
abbrev pub class_of : ℕ → Class
class_of b =
    if is_blank b then Blank
    else (if is_letter b then Letter
    else (if is_digit b then Digit
    else (if b == 34 then Quote
    else (if b == 47 then Slash
    else class_of_mark (mark_of b)))))

-- the blanks, and the bytes that a name, a number, a text and a comment of one line go on with; a text and such a comment hold any
-- byte but LF, and a text no quotation mark
abbrev pub is_in : ByteSet → ℕ → Bool
is_in Blanks b = is_blank b
is_in NameBytes b = is_name_byte b
is_in Digits b = is_digit b
is_in HexDigits b = is_ascii_hexdigit b
is_in TextBytes b = not (b == 34) && not (b == 10)
is_in LineBytes b = not (b == 10)

-- the bytes from one place up to another are in the set
abbrev pub AllIn : ByteSet → List ℕ → ℕ → ℕ → Type 0
AllIn set bytes from end = (k : ℕ) → from ≤ k → k < end → IsTrue (is_in set (slice_index bytes k))
