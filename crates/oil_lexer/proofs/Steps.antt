-- Pieces behind those before them, and blanks that follow each other.
use Rattle.std.proofs.Common.{◌≡◌, ℕ, ◌+◌, ◌<◌, ◌≤◌, true, cond, zero, suc, List, [], ◌∷◌, ◌++◌, length, take, drop, arith, refl, subst}
use Rattle.std.proofs.lemmas.List.Sums.{sum_by-cons}
use Rattle.std.specs.Prelude.{◌==◌, Result, Ok, Err}
use Rattle.osek_values.specs.declared.refusal.LexRule.{LexRule}
use Rattle.oil_lexer.specs.declared.{classes.{Class.{TheVariants.{Blank}}, ByteSet.TheVariants.{Blanks}}, token.{Piece.{Piece, TheVariants.{Gap, Whole}}, Token.{Token}}}
use Rattle.oil_lexer.specs.{Classes.{is_blank, class_of, AllIn}, Pieces.{IsLongest, Fits}, Fronts.{IsRun, IsFront, ArePieces, AreFirst}, Text.{Parts, none, gap, token, tokens_of, line_ends}}
use Rattle.oil_lexer.proofs.EachFront.{blank_longest}

-- what is parted behind what is parted
pub parts_behind : {last next : ℕ} {rest after : List ℕ} {more : List Token} → Parts next after last rest more → {line : ℕ} {bytes : List ℕ} {tokens : List Token} → Parts last rest line bytes tokens → Parts next after line bytes (tokens ++ more)
parts_behind back none = back
parts_behind back (gap m first more) = gap m first (parts_behind back more)
parts_behind back (token kind m first small more) = token kind m first small (parts_behind back more)

-- one piece
one_piece : (piece : Piece) (bytes : List ℕ) (n : ℕ) → IsLongest piece bytes n → Fits piece → (line : ℕ) → Parts (line + line_ends (take n bytes)) (drop n bytes) line bytes (tokens_of piece line)
one_piece Gap bytes n longest fits line = gap n longest none
one_piece (Whole kind) bytes n longest fits line = token kind n longest fits none

pub pieces_of : (r : Result (Piece × ℕ) LexRule) (bytes : List ℕ) → IsFront r bytes → AreFirst r bytes
pieces_of (Ok (piece, n)) bytes is = record { nonempty = is.0.piece_is.nonempty; in_range = is.0.piece_is.in_range; parts = one_piece piece bytes n is.0 is.1 }
pieces_of (Err rule) bytes is = is

-- blanks that follow each other

lines_step : (b line : ℕ) (bytes : List ℕ) → line + line_ends (b ∷ []) + line_ends bytes ≡ line + line_ends (b ∷ bytes)
lines_step b line bytes =
    let all : line_ends (b ∷ bytes) ≡ cond (b == 10) 1 0 + line_ends bytes = sum_by-cons (λ (x : ℕ). cond (x == 10) 1 0) b bytes in
    let one : line_ends (b ∷ []) ≡ cond (b == 10) 1 0 = omega (arith, sum_by-cons (λ (x : ℕ). cond (x == 10) 1 0) b []) in
    omega (arith, all, one)

blank_class : (b : ℕ) → is_blank b ≡ true → class_of b ≡ Blank
blank_class b e = rw e refl

blanks_parted : (n : ℕ) (bytes : List ℕ) → n ≤ length bytes → AllIn Blanks bytes 0 n → (line : ℕ) → Parts (line + line_ends (take n bytes)) (drop n bytes) line bytes []
blanks_parted zero bytes le all line = let here : line ≡ line + 0 = omega arith in subst (λ (last : ℕ). Parts last bytes line bytes []) here none
blanks_parted (suc n) [] le all line = absurd (omega (arith, le))
blanks_parted (suc n) (b ∷ bytes) le all line =
    let first : class_of b ≡ Blank = blank_class b (all 0 (omega arith) (omega arith)) in
    let back = blanks_parted n bytes (omega (arith, le)) (λ k low lt. all (suc k) (omega arith) (omega (arith, lt))) (line + line_ends (b ∷ [])) in
    gap 1 (blank_longest (b ∷ bytes) first (omega arith)) (subst (λ (last : ℕ). Parts last (drop n bytes) (line + line_ends (b ∷ [])) bytes []) (lines_step b line (take n bytes)) back)

pub blanks_first : (bytes : List ℕ) (n : ℕ) → IsRun Blanks bytes 0 n → 0 < n → ArePieces Gap bytes n
blanks_first bytes n run some = record { nonempty = some; in_range = run.in_range; parts = blanks_parted n bytes run.in_range run.all }
