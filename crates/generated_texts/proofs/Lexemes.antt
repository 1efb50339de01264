-- Texts that are spelled word by word, and their tokens: where each word and each number ends, a text is parted into these.
use Rattle.std.proofs.Common.{◌≡◌, ℕ, ◌+◌, ◌<◌, ◌≤◌, ◌^◌, Bool, true, false, cond, List, [], ◌∷◌, ◌++◌, length, take, drop, refl, sym, ap, subst, ◌∙◌, arith}
use Rattle.std.specs.{Prelude.{◌&&◌, ◌==◌, not, nat_lt, slice_index}, List.{list_all}}
use Rattle.std.proofs.lemmas.{Bool.{and_parts, and_from, or_left, or_right, or_parts, both_ways, not-true, ltb-true, leb-true}, List.{length-append, get_or_append_left}}
use Rattle.std.proofs.{lemmas.List.Sums.{AllPass-from_list_all, sum_by-cons}, Math.Seq.{take-append_seam, drop-append_seam, get_or-append_seam}}
use Rattle.osek_values.specs.Names.{is_letter, is_digit, is_name_byte, is_word, is_name}
use Rattle.oil_lexer.specs.declared.classes.{Class.{Class, TheVariants.{Blank, Letter, Digit, Single}}, ByteSet.TheVariants.{NameBytes, Digits}}
use Rattle.oil_lexer.specs.declared.token.{Mark.{Mark as MarkType, TheVariants.{OpenBrace, CloseBrace, OpenParen, CloseParen, OpenBracket, CloseBracket, Equals, Semicolon, Colon, Comma, Period, Question, Bar, Plus, Minus}}, TokenKind.TheVariants.{Name, Number, Mark}, Piece.{Piece, TheVariants.{Gap, Whole}}, Token.{Token}}
use Rattle.oil_lexer.specs.{Ahead.{AreAhead}, Classes.{is_blank, class_of}, Fronts.{IsRun}, Numbers.{value_of}, Pieces.{IsHex, IsPiece, IsLongest, is_x}}
use Rattle.oil_lexer.specs.Text.{Parts, none, gap, token, line_ends}
use Rattle.oil_lexer.proofs.{Longest.{is_of, to_piece, name_longest, decimal_longest}, Words.{word_bytes}}
use Rattle.oil_lexer.specs.Tokens.{name, number, mark}

-- a word, the digits of a number, a mark, a space or the end of a line
pub data Lexeme : Type 0 where
  a_word a_number : (bytes : List ℕ) → Lexeme
  a_mark : (m : MarkType) → Lexeme
  a_space a_line_end : Lexeme

abbrev pub mark_byte : MarkType → ℕ
mark_byte OpenBrace = 123
mark_byte CloseBrace = 125
mark_byte OpenParen = 40
mark_byte CloseParen = 41
mark_byte OpenBracket = 91
mark_byte CloseBracket = 93
mark_byte Equals = 61
mark_byte Semicolon = 59
mark_byte Colon = 58
mark_byte Comma = 44
mark_byte Period = 46
mark_byte Question = 63
mark_byte Bar = 124
mark_byte Plus = 43
mark_byte Minus = 45

abbrev pub spelled : List Lexeme → List ℕ
spelled [] = []
spelled (a_word w ∷ ls) = w ++ spelled ls
spelled (a_number ds ∷ ls) = ds ++ spelled ls
spelled (a_mark m ∷ ls) = mark_byte m ∷ spelled ls
spelled (a_space ∷ ls) = 32 ∷ spelled ls
spelled (a_line_end ∷ ls) = 10 ∷ spelled ls

-- the tokens of a text that begins on a line
abbrev pub tokens_from : ℕ → List Lexeme → List Token
tokens_from line [] = []
tokens_from line (a_word w ∷ ls) = name w line ∷ tokens_from line ls
tokens_from line (a_number ds ∷ ls) = number (value_of 10 ds) line ∷ tokens_from line ls
tokens_from line (a_mark m ∷ ls) = mark m line ∷ tokens_from line ls
tokens_from line (a_space ∷ ls) = tokens_from line ls
tokens_from line (a_line_end ∷ ls) = tokens_from (line + 1) ls

-- neither a word nor a number goes on with these bytes
abbrev pub ends_word : List ℕ → Bool
ends_word [] = true
ends_word (b ∷ bytes) = not (is_name_byte b)

-- digits, and a number that a token may have
abbrev pub is_numeral : List ℕ → Bool
is_numeral [] = false
is_numeral (d ∷ ds) = list_all is_digit (d ∷ ds) && nat_lt (value_of 10 (d ∷ ds)) (2 ^ 64)

-- each word is a name, each number has a value, and both end where they do
abbrev pub are_right : List Lexeme → Bool
are_right [] = true
are_right (a_word w ∷ ls) = is_name w && (ends_word (spelled ls) && are_right ls)
are_right (a_number ds ∷ ls) = is_numeral ds && (ends_word (spelled ls) && are_right ls)
are_right (a_mark m ∷ ls) = are_right ls
are_right (a_space ∷ ls) = are_right ls
are_right (a_line_end ∷ ls) = are_right ls

-- classes of bytes
no_blank_letter : (b : ℕ) → is_letter b ≡ true → is_blank b ≡ false
no_blank_letter b h = grind arith

no_blank_digit : (b : ℕ) → is_digit b ≡ true → is_blank b ≡ false
no_blank_digit b h = grind arith

no_letter_digit : (b : ℕ) → is_digit b ≡ true → is_letter b ≡ false
no_letter_digit b h = grind arith

of_letter : (blank letter : Bool) (rest : Class) → blank ≡ false → letter ≡ true → cond blank Blank (cond letter Letter rest) ≡ Letter
of_letter false true rest e f = refl
of_letter true _ rest e f = absurd cc
of_letter false false rest e f = absurd cc

letter_class : (b : ℕ) → is_letter b ≡ true → class_of b ≡ Letter
letter_class b h = of_letter (is_blank b) (is_letter b) _ (no_blank_letter b h) h

of_digit : (blank letter digit : Bool) (rest : Class) → blank ≡ false → letter ≡ false → digit ≡ true → cond blank Blank (cond letter Letter (cond digit Digit rest)) ≡ Digit
of_digit false false true rest e f g = refl
of_digit true _ _ rest e f g = absurd cc
of_digit false true _ rest e f g = absurd cc
of_digit false false false rest e f g = absurd cc

digit_class : (b : ℕ) → is_digit b ≡ true → class_of b ≡ Digit
digit_class b h = of_digit (is_blank b) (is_letter b) (is_digit b) _ (no_blank_digit b h) (no_letter_digit b h) h

-- a digit goes on as a name does, and an x too
digit_in_name : (b : ℕ) → is_digit b ≡ true → is_name_byte b ≡ true
digit_in_name b h = or_right (is_letter b) (is_digit b) h

x_in_name : (b : ℕ) → is_x b ≡ true → is_name_byte b ≡ true
x_in_name b h = grind arith

no_digit_x : (b : ℕ) → is_x b ≡ true → is_digit b ≡ true → ⊥
no_digit_x b x d = grind arith

digit_ends : (b : ℕ) → is_name_byte b ≡ false → is_digit b ≡ false
digit_ends b h = (or_parts (is_letter b) (is_digit b) h).1

-- bytes of names end no line
name_byte_line : (b : ℕ) → is_name_byte b ≡ true → (b == 10) ≡ false
name_byte_line b h = grind arith

no_line_ends : (bytes : List ℕ) → list_all is_name_byte bytes ≡ true → line_ends bytes ≡ 0
no_line_ends [] h = refl
no_line_ends (b ∷ bytes) h =
    let parts = and_parts (is_name_byte b) (list_all is_name_byte bytes) h in
    sum_by-cons (λ (c : ℕ). cond (c == 10) 1 0) b bytes ∙ (λ i. cond (name_byte_line b parts.0 i) 1 0 + no_line_ends bytes parts.1 i)

-- where bytes of a set end before a rest
bytes_in : (p : ℕ → Bool) (front rest : List ℕ) → list_all p front ≡ true → (k : ℕ) → k < length front → p (slice_index (front ++ rest) k) ≡ true
bytes_in p front rest all k lt =
    rw (get_or_append_left front rest 0 k lt) (AllPass-from_list_all p front all k 0 lt)

ends_at : (p : ℕ → Bool) (front rest : List ℕ) → ((b : ℕ) → is_name_byte b ≡ false → p b ≡ false) → ends_word rest ≡ true → length front < length (front ++ rest) → p (slice_index (front ++ rest) (length front)) ≡ false
ends_at p front [] outside ends lt = absurd (omega (arith, length-append front [], lt))
ends_at p front (b ∷ rest) outside ends lt = rw (get_or-append_seam front b rest 0) (outside b (not-true (is_name_byte b) ends))

-- a word in front of a rest that doesn't go on with it
word_longest : (w rest : List ℕ) → is_word w ≡ true → ends_word rest ≡ true → IsLongest (Whole (Name w)) (w ++ rest) (length w)
word_longest [] rest word ends = absurd cc
word_longest (c ∷ cs) rest word ends =
    let w = c ∷ cs in
    let bytes = w ++ rest in
    let same = take-append_seam w rest in
    let inside : length w ≤ length bytes = omega (arith, length-append w rest) in
    let letter : is_letter c ≡ true = (and_parts (is_letter c) (list_all is_name_byte cs) word).0 in
    let is : is_word (take (length w) bytes) ≡ true = subst (λ (v : List ℕ). is_word v ≡ true) (sym same) word in
    let run : IsRun NameBytes bytes 1 (length w) = record {
      begins = omega arith;
      in_range = inside;
      all = word_bytes bytes (length w) inside is;
      stops = ends_at is_name_byte w rest (λ b h. h) ends;
    } in
    subst (λ (v : List ℕ). IsLongest (Whole (Name v)) bytes (length w)) same (name_longest bytes (length w) (letter_class c letter) run)

no_hex : (d : ℕ) (ds rest : List ℕ) → list_all is_digit (d ∷ ds) ≡ true → ends_word rest ≡ true → (m : ℕ) → m ≤ length (d ∷ (ds ++ rest)) → IsHex (d ∷ (ds ++ rest)) m → ⊥
no_hex d [] [] all ends m le h = omega (arith, le, h.long)
no_hex d [] (b ∷ rest) all ends m le h = both_ways (is_name_byte b) (not-true (is_name_byte b) ends) (x_in_name b h.x_second)
no_hex d (e ∷ ds) rest all ends m le h =
    let parts = and_parts (is_digit d) (list_all is_digit (e ∷ ds)) all in
    let more = and_parts (is_digit e) (list_all is_digit ds) parts.1 in
    no_digit_x e h.x_second more.0

-- a number in front of such a rest
number_longest : (ds rest : List ℕ) → is_numeral ds ≡ true → ends_word rest ≡ true → IsLongest (Whole (Number (value_of 10 ds))) (ds ++ rest) (length ds)
number_longest [] rest numeral ends = absurd cc
number_longest (d ∷ more) rest numeral ends =
    let ds = d ∷ more in
    let bytes = ds ++ rest in
    let same = take-append_seam ds rest in
    let digits : list_all is_digit ds ≡ true = (and_parts (list_all is_digit ds) (nat_lt (value_of 10 ds) (2 ^ 64)) numeral).0 in
    let first : is_digit d ≡ true = (and_parts (is_digit d) (list_all is_digit more) digits).0 in
    let run : IsRun Digits bytes 1 (length ds) = record {
      begins = omega arith;
      in_range = omega (arith, length-append ds rest);
      all = λ k low high. bytes_in is_digit ds rest digits k high;
      stops = ends_at is_digit ds rest digit_ends ends;
    } in
    subst (λ (v : List ℕ). IsLongest (Whole (Number (value_of 10 v))) bytes (length ds)) same
    (decimal_longest bytes (length ds) (digit_class d first) (no_hex d more rest digits ends) run)

mark_class : (m : MarkType) → class_of (mark_byte m) ≡ Single m
mark_class OpenBrace = refl
mark_class _ = refl

mark_line : (m : MarkType) → line_ends (mark_byte m ∷ []) ≡ 0
mark_line OpenBrace = refl
mark_line _ = refl

one_byte : (b : ℕ) (rest : List ℕ) (piece : Piece) → IsPiece piece (b ∷ rest) 1 → ((other : Piece) (n : ℕ) → IsPiece other (b ∷ rest) n → n ≡ 1) → IsLongest piece (b ∷ rest) 1
one_byte b rest piece is only = record { piece_is = is; longest = λ other n lt p. omega (arith, lt, only other n p) }

mark_longest : (m : MarkType) (rest : List ℕ) → IsLongest (Whole (Mark m)) (mark_byte m ∷ rest) 1
mark_longest m rest =
    let bytes = mark_byte m ∷ rest in
    one_byte (mark_byte m) rest (Whole (Mark m)) (to_piece (Single m) (Whole (Mark m)) bytes 1 (mark_class m) (omega arith) (omega arith) (refl, refl))
    (λ other n p. (is_of (Single m) other bytes n (mark_class m) p).1)

blank_longest : (b : ℕ) (rest : List ℕ) → class_of b ≡ Blank → IsLongest Gap (b ∷ rest) 1
blank_longest b rest class =
    one_byte b rest Gap (to_piece Blank Gap (b ∷ rest) 1 class (omega arith) (omega arith) (refl, refl))
    (λ other n p. (is_of Blank other (b ∷ rest) n class p).1)

-- the rest begins on the next line, if a piece in front of it ends one
rest_at : (front rest : List ℕ) (line next last : ℕ) (tokens : List Token) → line + line_ends front ≡ next → Parts last [] next rest tokens → Parts last [] (line + line_ends (take (length front) (front ++ rest))) (drop (length front) (front ++ rest)) tokens
rest_at front rest line next last tokens lines parts =
    let here : line + line_ends (take (length front) (front ++ rest)) ≡ next = ap (λ (f : List ℕ). line + line_ends f) (take-append_seam front rest) ∙ lines in
    subst (λ (b : List ℕ). Parts last [] (line + line_ends (take (length front) (front ++ rest))) b tokens) (sym (drop-append_seam front rest))
    (subst (λ (l : ℕ). Parts last [] l rest tokens) (sym here) parts)

word_bytes_all : (w : List ℕ) → is_word w ≡ true → list_all is_name_byte w ≡ true
word_bytes_all [] h = absurd cc
word_bytes_all (c ∷ cs) h =
    let parts = and_parts (is_letter c) (list_all is_name_byte cs) h in
    and_from (is_name_byte c) (list_all is_name_byte cs) (or_left (is_letter c) (is_digit c) parts.0) parts.1

pub digits_all : (ds : List ℕ) → list_all is_digit ds ≡ true → list_all is_name_byte ds ≡ true
digits_all [] h = refl
digits_all (d ∷ ds) h =
    let parts = and_parts (is_digit d) (list_all is_digit ds) h in
    and_from (is_name_byte d) (list_all is_name_byte ds) (digit_in_name d parts.0) (digits_all ds parts.1)

with_word : (w : List ℕ) (ls : List Lexeme) (line : ℕ) → is_name w ≡ true → ends_word (spelled ls) ≡ true → AreAhead line (spelled ls) (tokens_from line ls) → AreAhead line (w ++ spelled ls) (name w line ∷ tokens_from line ls)
with_word w ls line is ends (last, parts) =
    let both = and_parts (is_word w) _ is in
    let none_ends : line + line_ends w ≡ line = omega (arith, no_line_ends w (word_bytes_all w both.0)) in
    (last, token (Name w) (length w) (word_longest w (spelled ls) both.0 ends) (leb-true (length w) 64 both.1) (rest_at w (spelled ls) line line last _ none_ends parts))

with_number : (ds : List ℕ) (ls : List Lexeme) (line : ℕ) → is_numeral ds ≡ true → ends_word (spelled ls) ≡ true → AreAhead line (spelled ls) (tokens_from line ls) → AreAhead line (ds ++ spelled ls) (number (value_of 10 ds) line ∷ tokens_from line ls)
with_number [] ls line is ends ahead = absurd cc
with_number (d ∷ more) ls line is ends (last, parts) =
    let ds = d ∷ more in
    let both = and_parts (list_all is_digit ds) (nat_lt (value_of 10 ds) (2 ^ 64)) is in
    let none_ends : line + line_ends ds ≡ line = omega (arith, no_line_ends ds (digits_all ds both.0)) in
    (last, token (Number (value_of 10 ds)) (length ds) (number_longest ds (spelled ls) is ends) (ltb-true (value_of 10 ds) (2 ^ 64) both.1) (rest_at ds (spelled ls) line line last _ none_ends parts))

with_mark : (m : MarkType) (ls : List Lexeme) (line : ℕ) → AreAhead line (spelled ls) (tokens_from line ls) → AreAhead line (mark_byte m ∷ spelled ls) (mark m line ∷ tokens_from line ls)
with_mark m ls line (last, parts) =
    (last, token (Mark m) 1 (mark_longest m (spelled ls)) tt (rest_at (mark_byte m ∷ []) (spelled ls) line line last _ (omega (arith, mark_line m)) parts))

with_blank : (b next : ℕ) (rest : List ℕ) (line : ℕ) (tokens : List Token) → class_of b ≡ Blank → line + line_ends (b ∷ []) ≡ next → AreAhead next rest tokens → AreAhead line (b ∷ rest) tokens
with_blank b next rest line tokens class lines (last, parts) =
    (last, gap 1 (blank_longest b rest class) (rest_at (b ∷ []) rest line next last tokens lines parts))

-- a text that is spelled right is parted into its tokens
pub parted : (ls : List Lexeme) (line : ℕ) → are_right ls ≡ true → AreAhead line (spelled ls) (tokens_from line ls)
parted [] line right = (line, none)
parted (a_word w ∷ ls) line right =
    let first = and_parts (is_name w) (ends_word (spelled ls) && are_right ls) right in
    let more = and_parts (ends_word (spelled ls)) (are_right ls) first.1 in
    with_word w ls line first.0 more.0 (parted ls line more.1)
parted (a_number ds ∷ ls) line right =
    let first = and_parts (is_numeral ds) (ends_word (spelled ls) && are_right ls) right in
    let more = and_parts (ends_word (spelled ls)) (are_right ls) first.1 in
    with_number ds ls line first.0 more.0 (parted ls line more.1)
parted (a_mark m ∷ ls) line right = with_mark m ls line (parted ls line right)
parted (a_space ∷ ls) line right = with_blank 32 line (spelled ls) line (tokens_from line ls) refl (omega arith) (parted ls line right)
parted (a_line_end ∷ ls) line right = with_blank 10 (line + 1) (spelled ls) line (tokens_from (line + 1) ls) refl (omega arith) (parted ls (line + 1) right)
