-- At each prefix of a text stands a piece that fits, or it breaks a rule.
use Rattle.std.proofs.Common.{◌≡◌, ℕ, ◌+◌, ◌-◌, ◌<◌, ◌≤◌, ◌^◌, ◌⊎◌, inl, inr, ⊎_elim, Bool, true, false, zero, suc, List, length, take, arith, refl, subst}
use Rattle.std.proofs.{lemmas.List.{get_or_past, length-take-le}, str.Laws.{order}}
use Rattle.std.specs.Prelude.{slice_index, nat_le, ◌==◌, ◌&&◌}
use Rattle.osek_values.specs.declared.{limits.TheConstants.{MAX_NAME}, refusal.LexRule.{LexRule, TheVariants.{L1, L2, L3, L4, L5}}}
use Rattle.oil_lexer.specs.declared.classes.{Class.{Class, TheVariants.{Blank, Letter, Digit, Quote, Slash, Single, Nothing}}, ByteSet.{ByteSet, TheVariants.{NameBytes, Digits, HexDigits, TextBytes, LineBytes}}}
use Rattle.oil_lexer.specs.{declared.token.{TokenKind.TheVariants.{Name, Number, Text, Mark}, Piece.{Piece, TheVariants.{Gap, Whole}}}, Classes.{class_of, is_in, AllIn}}
use Rattle.oil_lexer.specs.{Fronts.{IsRun, IsFirstClose, IsLongestHex}, Numbers.{value_of}, Pieces.{is_x, part, ClosesAt, IsHex, IsPiece, IsLongest, NoPiece, Fits, Breaks}}
use Rattle.oil_lexer.proofs.{Firsts.{quote_first, slash_first}, Longest.{is_of, to_piece, past_run, name_longest, hex_longest, decimal_longest}}

pub data Front (bytes : List ℕ) : Type 0 where
  stands : (piece : Piece) (n : ℕ) → IsLongest piece bytes n → Fits piece → Front bytes
  breaks : (rule : LexRule) → Breaks rule bytes → Front bytes

-- where the bytes of a set end that stand from a place on
abbrev Run : ByteSet → List ℕ → ℕ → Type 0
Run set bytes from = (end : ℕ) × IsRun set bytes from end

module _ (set : ByteSet) (bytes : List ℕ) (from : ℕ) where
  one_more : (i : ℕ) → AllIn set bytes from i → is_in set (slice_index bytes i) ≡ true → AllIn set bytes from (i + 1)
  one_more i all here k low high = ⊎_elim (λ lt. all k low lt) (λ le. let same : i ≡ k = omega (arith, le, high) in subst (λ (j : ℕ). is_in set (slice_index bytes j) ≡ true) same here) (order k i)

  at_byte : (i : ℕ) (b : Bool) → from ≤ i → i < length bytes → AllIn set bytes from i → is_in set (slice_index bytes i) ≡ b → (b ≡ true → Run set bytes from) → Run set bytes from
  at_byte i true low lt all here more = more refl
  at_byte i false low lt all here more = (i, record { begins = low; in_range = omega (arith, lt); all = all; stops = λ inside. here })

  run_behind : (left i : ℕ) → from ≤ i → i + left ≡ length bytes → AllIn set bytes from i → Run set bytes from
  run_behind zero i low e all = (i, record { begins = low; in_range = omega (arith, e); all = all; stops = λ inside. absurd (omega (arith, e, inside)) })
  run_behind (suc left) i low e all =
      at_byte i (is_in set (slice_index bytes i)) low (omega (arith, e)) all refl
      (λ here. run_behind left (i + 1) (omega (arith, low)) (omega (arith, e)) (one_more i all here))

  run : from ≤ length bytes → Run set bytes from
  run le = run_behind (length bytes - from) from (omega arith) (omega (arith, le)) (λ k low high. absurd (omega (arith, low, high)))

-- what a test of a byte says
is_byte : (a b : ℕ) → (a == b) ≡ true → a ≡ b
is_byte a b same = grind arith

is_other : (a b : ℕ) → (a == b) ≡ false → a ≡ b → ⊥
is_other a b differs same = grind arith

-- a byte other than 0 is one of the text
within : (bytes : List ℕ) (i b : ℕ) → slice_index bytes i ≡ b → 0 < b → i < length bytes
within bytes i b e some = ⊎_elim (λ lt. lt) (λ le. absurd (let past : slice_index bytes i ≡ 0 = get_or_past bytes i 0 le in omega (arith, past, e, some))) (order i (length bytes))

-- a blank or a mark
one_byte : (class : Class) (piece : Piece) (bytes : List ℕ) → class_of (slice_index bytes 0) ≡ class → 0 < length bytes → IsPiece piece bytes 1 → ((other : Piece) (m : ℕ) → IsPiece other bytes m → m ≡ 1) → IsLongest piece bytes 1
one_byte class piece bytes e nonempty is one = record { piece_is = is; longest = λ other m lt p. omega (arith, lt, one other m p) }

pub blank_longest : (bytes : List ℕ) → class_of (slice_index bytes 0) ≡ Blank → 0 < length bytes → IsLongest Gap bytes 1
blank_longest bytes e nonempty = one_byte Blank Gap bytes e nonempty (to_piece Blank Gap bytes 1 e (omega arith) nonempty (refl, refl)) (λ other m p. (is_of Blank other bytes m e p).1)

blank : (bytes : List ℕ) → class_of (slice_index bytes 0) ≡ Blank → 0 < length bytes → Front bytes
blank bytes e nonempty = stands Gap 1 (blank_longest bytes e nonempty) tt

single : (mark : _) (bytes : List ℕ) → class_of (slice_index bytes 0) ≡ Single mark → 0 < length bytes → Front bytes
single mark bytes e nonempty =
    stands (Whole (Mark mark)) 1 (one_byte (Single mark) (Whole (Mark mark)) bytes e nonempty (to_piece (Single mark) (Whole (Mark mark)) bytes 1 e (omega arith) nonempty (refl, refl)) (λ other m p. (is_of (Single mark) other bytes m e p).1)) tt

nothing : (bytes : List ℕ) → class_of (slice_index bytes 0) ≡ Nothing → Front bytes
nothing bytes e = breaks L1 (
  (λ piece n p. is_of Nothing piece bytes n e p),
  (λ opens. absurd (let slash : Slash ≡ Nothing = subst (λ (b : ℕ). class_of b ≡ Nothing) opens.0 e in cc slash)),
  (λ opens. absurd (let quote : Quote ≡ Nothing = subst (λ (b : ℕ). class_of b ≡ Nothing) opens e in cc quote)),
)

name : (bytes : List ℕ) → class_of (slice_index bytes 0) ≡ Letter → 0 < length bytes → Front bytes
name bytes e nonempty =
    let (n, is) = run NameBytes bytes 1 (omega (arith, nonempty)) in
    let long = length-take-le n bytes is.in_range in
    ⊎_elim
    (λ over. breaks L5 (take n bytes, n, name_longest bytes n e is, omega (arith, long, over)))
    (λ le. stands (Whole (Name (take n bytes))) n (name_longest bytes n e is) (omega (arith, long, le)))
    (order MAX_NAME n)

-- a number of this value
valued : (bytes : List ℕ) (v n : ℕ) → IsLongest (Whole (Number v)) bytes n → Front bytes
valued bytes v n longest = ⊎_elim (λ lt. stands (Whole (Number v)) n longest lt) (λ le. breaks L4 (v, n, longest, le)) (order v (2 ^ 64))

abbrev NoHex : List ℕ → Type 0
NoHex bytes = (n : ℕ) → n ≤ length bytes → IsHex bytes n → ⊥

abbrev opens_hex : List ℕ → Bool
opens_hex bytes = (slice_index bytes 0 == 48) && is_x (slice_index bytes 1)

-- the digits behind 0x end here
hex_until : (bytes : List ℕ) (end : ℕ) → slice_index bytes 0 ≡ 48 → is_x (slice_index bytes 1) ≡ true → IsRun HexDigits bytes 2 end → ((n : ℕ) × IsLongestHex bytes n) ⊎ NoHex bytes
hex_until bytes end zero_first x_second is = ⊎_elim
    (λ lt. inl (end, record { in_range = is.in_range; is_hex = record { zero_first = zero_first; x_second = x_second; long = lt; digits = is.all }; longest = λ m more le h. past_run HexDigits bytes 2 end m is more le h.digits }))
    (λ le. inr (λ m inside h. past_run HexDigits bytes 2 end m is (omega (arith, le, h.long)) inside h.digits))
    (order 2 end)

hex_at : (bytes : List ℕ) (b : Bool) → opens_hex bytes ≡ b → ((n : ℕ) × IsLongestHex bytes n) ⊎ NoHex bytes
hex_at bytes false e = inr (λ n le h. let zero_first = h.zero_first in let x_second = h.x_second in grind arith)
hex_at bytes true e =
    let zero_first : slice_index bytes 0 ≡ 48 = grind arith in
    let x_second : is_x (slice_index bytes 1) ≡ true = grind arith in
    let some : 0 < slice_index bytes 1 = grind arith in
    let inside : 1 < length bytes = within bytes 1 (slice_index bytes 1) refl some in
    let (end, is) = run HexDigits bytes 2 (omega (arith, inside)) in
    hex_until bytes end zero_first x_second is

number : (bytes : List ℕ) → class_of (slice_index bytes 0) ≡ Digit → 0 < length bytes → Front bytes
number bytes e nonempty =
    let (end, is) = run Digits bytes 1 (omega (arith, nonempty)) in
    ⊎_elim
    (λ hex. valued bytes (value_of 16 (part bytes 2 hex.0)) hex.0 (hex_longest bytes hex.0 e hex.1))
    (λ none. valued bytes (value_of 10 (take end bytes)) end (decimal_longest bytes end e none is))
    (hex_at bytes (opens_hex bytes) refl)

-- a text, closed where its bytes end
closed : (bytes : List ℕ) (end : ℕ) → class_of (slice_index bytes 0) ≡ Quote → IsRun TextBytes bytes 1 end → slice_index bytes end ≡ 34 → Front bytes
closed bytes end e is here =
    let inside : end < length bytes = within bytes end 34 here (omega arith) in
    let n = end + 1 in
    let body : AllIn TextBytes bytes 1 (n - 1) = subst (λ (k : ℕ). AllIn TextBytes bytes 1 k) (omega arith) is.all in
    let last : slice_index bytes (n - 1) ≡ 34 = subst (λ (k : ℕ). slice_index bytes k ≡ 34) (omega arith) here in
    stands (Whole (Text (part bytes 1 (n - 1)))) n
    (record {
      piece_is = to_piece Quote _ bytes n e (omega arith) (omega (arith, inside)) (refl, record { long = omega (arith, is.begins); body = body; closes = last });
      longest = λ other m lt p.
          let quoted = (is_of Quote other bytes m e p).1 in
          past_run TextBytes bytes 1 end (m - 1) is (omega (arith, lt)) (omega (arith, p.in_range)) quoted.body;
    })
    tt

-- a text whose bytes end otherwise is none
unclosed : (bytes : List ℕ) (end : ℕ) → class_of (slice_index bytes 0) ≡ Quote → IsRun TextBytes bytes 1 end → (slice_index bytes end ≡ 34 → ⊥) → NoPiece bytes
unclosed bytes end e is other piece n p =
    let quoted = (is_of Quote piece bytes n e p).1 in
    let long = quoted.long in
    let closes : slice_index bytes (n - 1) ≡ 34 = quoted.closes in
    ⊎_elim
    (λ lt. let text : is_in TextBytes (slice_index bytes (n - 1)) ≡ true = is.all (n - 1) (omega (arith, long)) lt in grind arith)
    (λ le. ⊎_elim
    (λ lt. past_run TextBytes bytes 1 end (n - 1) is lt (omega (arith, p.in_range)) quoted.body)
    (λ ge. other (subst (λ (k : ℕ). slice_index bytes k ≡ 34) (omega (arith, le, ge)) closes))
    (order end (n - 1)))
    (order (n - 1) end)

quoted_at : (bytes : List ℕ) (end : ℕ) (b : Bool) → (slice_index bytes end == 34) ≡ b → class_of (slice_index bytes 0) ≡ Quote → IsRun TextBytes bytes 1 end → Front bytes
quoted_at bytes end true here e is = closed bytes end e is (is_byte (slice_index bytes end) 34 here)
quoted_at bytes end false here e is = breaks L3 (unclosed bytes end e is (is_other (slice_index bytes end) 34 here), quote_first (slice_index bytes 0) e)

quoted : (bytes : List ℕ) → class_of (slice_index bytes 0) ≡ Quote → 0 < length bytes → Front bytes
quoted bytes e nonempty =
    let (end, is) = run TextBytes bytes 1 (omega (arith, nonempty)) in
    quoted_at bytes end (slice_index bytes end == 34) refl e is

line_comment : (bytes : List ℕ) → class_of (slice_index bytes 0) ≡ Slash → slice_index bytes 1 ≡ 47 → Front bytes
line_comment bytes e second =
    let inside : 1 < length bytes = within bytes 1 47 second (omega arith) in
    let (end, is) = run LineBytes bytes 2 (omega (arith, inside)) in
    stands Gap end
    (record {
      piece_is = to_piece Slash Gap bytes end e (omega (arith, is.begins)) is.in_range (refl, inl (record { opens = second; long = is.begins; body = is.all }));
      longest = λ other m lt p. ⊎_elim
          (λ comment. past_run LineBytes bytes 2 end m is lt p.in_range comment.body)
          (λ comment. omega (arith, second, comment.opens))
          (is_of Slash other bytes m e p).1;
    })
    tt

-- the first */ behind /*, if there is one
abbrev NoClose : List ℕ → Type 0
NoClose bytes = (n : ℕ) → n ≤ length bytes → ClosesAt bytes n → ⊥

abbrev closes_at : List ℕ → ℕ → Bool
closes_at bytes i = nat_le 4 i && (slice_index bytes (i - 2) == 42) && (slice_index bytes (i - 1) == 47)

close_at : (bytes : List ℕ) (i : ℕ) (b : Bool) → closes_at bytes i ≡ b → i ≤ length bytes → ((k : ℕ) → k < i → ClosesAt bytes k → ⊥) → (((k : ℕ) → k < i + 1 → ClosesAt bytes k → ⊥) → ((n : ℕ) × IsFirstClose bytes n) ⊎ NoClose bytes) → ((n : ℕ) × IsFirstClose bytes n) ⊎ NoClose bytes
close_at bytes i true e le before more =
    let far : 4 ≤ i = grind arith in
    let star : slice_index bytes (i - 2) ≡ 42 = grind arith in
    let slash : slice_index bytes (i - 1) ≡ 47 = grind arith in
    inl (i, record { in_range = le; closes = (far, star, slash); first = before })
close_at bytes i false e le before more = more (λ k lt closes. ⊎_elim (λ less. before k less closes) (λ ge. not_here (subst (ClosesAt bytes) (omega (arith, ge, lt)) closes)) (order k i))
  where
    not_here : ClosesAt bytes i → ⊥
    not_here (far, star, slash) = grind arith

close_behind : (bytes : List ℕ) (left i : ℕ) → i + left ≡ length bytes + 1 → ((k : ℕ) → k < i → ClosesAt bytes k → ⊥) → ((n : ℕ) × IsFirstClose bytes n) ⊎ NoClose bytes
close_behind bytes zero i e before = inr (λ n le closes. before n (omega (arith, e, le)) closes)
close_behind bytes (suc left) i e before = close_at bytes i (closes_at bytes i) refl (omega (arith, e)) before (λ next. close_behind bytes left (i + 1) (omega (arith, e)) next)

block_comment : (bytes : List ℕ) → class_of (slice_index bytes 0) ≡ Slash → slice_index bytes 1 ≡ 42 → Front bytes
block_comment bytes e second = ⊎_elim closed_comment open_comment (close_behind bytes (length bytes + 1) 0 (omega arith) (λ k lt closes. absurd (omega (arith, lt))))
  where
    closed_comment : (n : ℕ) × IsFirstClose bytes n → Front bytes
    closed_comment (n, is) = stands Gap n
        (record {
          piece_is = to_piece Slash Gap bytes n e (omega (arith, is.closes.0)) is.in_range (refl, inr (record { opens = second; closes = is.closes; first = is.first }));
          longest = λ other m lt p. ⊎_elim
              (λ comment. omega (arith, second, comment.opens))
              (λ comment. comment.first n lt is.closes)
              (is_of Slash other bytes m e p).1;
        })
        tt

    open_comment : NoClose bytes → Front bytes
    open_comment none = breaks L2 (
      (λ piece n p. ⊎_elim (λ comment. omega (arith, second, comment.opens)) (λ comment. none n p.in_range comment.closes) (is_of Slash piece bytes n e p).1),
      (slash_first (slice_index bytes 0) e, second),
    )

no_comment : (bytes : List ℕ) → class_of (slice_index bytes 0) ≡ Slash → (slice_index bytes 1 ≡ 47 → ⊥) → (slice_index bytes 1 ≡ 42 → ⊥) → Front bytes
no_comment bytes e slash star =
    let first : slice_index bytes 0 ≡ 47 = slash_first (slice_index bytes 0) e in
    breaks L1 (
      (λ piece n p. ⊎_elim (λ comment. slash comment.opens) (λ comment. star comment.opens) (is_of Slash piece bytes n e p).1),
      (λ opens. star opens.1),
      (λ opens. omega (arith, first, opens)),
    )

comment_at : (bytes : List ℕ) (slash star : Bool) → (slice_index bytes 1 == 47) ≡ slash → (slice_index bytes 1 == 42) ≡ star → class_of (slice_index bytes 0) ≡ Slash → Front bytes
comment_at bytes true star s t e = line_comment bytes e (is_byte (slice_index bytes 1) 47 s)
comment_at bytes false true s t e = block_comment bytes e (is_byte (slice_index bytes 1) 42 t)
comment_at bytes false false s t e = no_comment bytes e (is_other (slice_index bytes 1) 47 s) (is_other (slice_index bytes 1) 42 t)

front_of : (class : Class) (bytes : List ℕ) → class_of (slice_index bytes 0) ≡ class → 0 < length bytes → Front bytes
front_of Blank bytes e nonempty = blank bytes e nonempty
front_of Letter bytes e nonempty = name bytes e nonempty
front_of Digit bytes e nonempty = number bytes e nonempty
front_of Quote bytes e nonempty = quoted bytes e nonempty
front_of Slash bytes e nonempty = comment_at bytes (slice_index bytes 1 == 47) (slice_index bytes 1 == 42) refl refl e
front_of (Single mark) bytes e nonempty = single mark bytes e nonempty
front_of Nothing bytes e nonempty = nothing bytes e

pub each_front : (bytes : List ℕ) → 0 < length bytes → Front bytes
each_front bytes nonempty = front_of (class_of (slice_index bytes 0)) bytes refl nonempty
