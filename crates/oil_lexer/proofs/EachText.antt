-- Each text has tokens or a first fault.
use Rattle.std.proofs.{Common.{ℕ, ◌+◌, ◌<◌, ◌≤◌, inl, inr, ⊎_elim, zero, suc, List, [], ◌∷◌, length, take, drop, arith, refl}, lemmas.List.{length-drop}, str.Laws.{order}}
use Rattle.std.specs.Prelude.{◌≢◌, Result, Ok, Err}
use Rattle.osek_values.specs.declared.{limits.TheConstants.{MAX_FILE}, refusal.LexRule.{LexRule, TheVariants.{L6}}}
use Rattle.oil_lexer.specs.declared.token.{Piece.TheVariants.{Gap, Whole}, Token.{Token}}
use Rattle.osek_values.specs.declared.refused.LineFault.{LineFault}
use Rattle.oil_lexer.specs.{Pieces.{IsLongest, Fits, Breaks}, Text.{Parts, none, gap, token, token_of, line_ends}, Answers.{IsAnswer}}
use Rattle.oil_lexer.proofs.EachFront.{Front, stands, breaks, each_front}

-- how a text ends that begins on a line: it is parted whole, or up to a rest that breaks a rule
data Ends (line : ℕ) (bytes : List ℕ) : Type 0 where
  whole : (last : ℕ) (tokens : List Token) → Parts last [] line bytes tokens → Ends line bytes
  broken : (last : ℕ) (rest : List ℕ) (tokens : List Token) (rule : LexRule) → Parts last rest line bytes tokens → rest ≢ [] → Breaks rule rest → Ends line bytes

with_gap : {line : ℕ} {bytes : List ℕ} (n : ℕ) → IsLongest Gap bytes n → Ends (line + line_ends (take n bytes)) (drop n bytes) → Ends line bytes
with_gap n longest (whole last tokens parts) = whole last tokens (gap n longest parts)
with_gap n longest (broken last rest tokens rule parts some is) = broken last rest tokens rule (gap n longest parts) some is

with_token : {line : ℕ} {bytes : List ℕ} (kind : _) (n : ℕ) → IsLongest (Whole kind) bytes n → Fits (Whole kind) → Ends (line + line_ends (take n bytes)) (drop n bytes) → Ends line bytes
with_token {line = line} kind n longest fits (whole last tokens parts) = whole last (token_of kind line ∷ tokens) (token kind n longest fits parts)
with_token {line = line} kind n longest fits (broken last rest tokens rule parts some is) = broken last rest (token_of kind line ∷ tokens) rule (token kind n longest fits parts) some is

at_front : (line : ℕ) (bytes : List ℕ) → bytes ≢ [] → Front bytes → ((n : ℕ) → 0 < n → n ≤ length bytes → Ends (line + line_ends (take n bytes)) (drop n bytes)) → Ends line bytes
at_front line bytes some (stands Gap n longest fits) more = with_gap n longest (more n longest.piece_is.nonempty longest.piece_is.in_range)
at_front line bytes some (stands (Whole kind) n longest fits) more = with_token kind n longest fits (more n longest.piece_is.nonempty longest.piece_is.in_range)
at_front line bytes some (breaks rule is) more = broken line bytes [] rule none some is

ends : (most line : ℕ) (bytes : List ℕ) → length bytes ≤ most → Ends line bytes
ends most line [] le = whole line [] none
ends zero line (b ∷ bytes) le = absurd (omega (arith, le))
ends (suc most) line (b ∷ bytes) le =
    at_front line (b ∷ bytes) (λ e. absurd (cc e)) (each_front (b ∷ bytes) (omega arith))
    (λ n some inside. ends most (line + line_ends (take n (b ∷ bytes))) (drop n (b ∷ bytes)) (omega (arith, le, some, length-drop n (b ∷ bytes))))

answer_of : (bytes : List ℕ) → length bytes ≤ MAX_FILE → Ends 1 bytes → (answer : Result (List Token) (LineFault LexRule)) × IsAnswer answer bytes
answer_of bytes within (whole last tokens parts) = (Ok tokens, record { within = within; parts = (last, parts) })
answer_of bytes within (broken last rest tokens rule parts some is) = (Err (record { line = last; rule = rule }), inr (record { within = within; found = (rest, tokens, parts, some, is) }))

pub some_answer : (bytes : List ℕ) → (answer : Result (List Token) (LineFault LexRule)) × IsAnswer answer bytes
some_answer bytes = ⊎_elim
    (λ over. (Err (record { line = 0; rule = L6 }), inl (over, refl)))
    (λ within. answer_of bytes within (ends (length bytes) 1 bytes (omega arith)))
    (order MAX_FILE (length bytes))
