-- An event text that comes in pieces: what a feed holds of it, and the lines that come out (this project's profile).
use Rattle.std.specs.Prelude.{◌≡◌, ℕ, ◌+◌, ◌-◌, ◌==◌, ◌&&◌, min, nat_lt, Bool, true, false, List, [], ◌∷◌, ◌++◌, length, take, drop, if◌then◌else◌, Option, Some, None}
use Rattle.std.specs.{List.{position}, Str.Lines.{strip_carriage_return}}
use Rattle.osek_values.specs.declared.limits.TheConstants.{MAX_EVENT_LINE}
use Rattle.trace_text.specs.declared.feed.{FeedStep.{FeedStep, TheVariants.{Line, End, More}}, TheConstants.{FEED_ROOM}}

-- the bytes that came and are ahead, whether none comes behind them, and the line that came out last
pub record FeedState : Type 0 where
  pub ahead : List ℕ
  pub finished : Bool
  pub line : List ℕ

abbrev pub no_bytes : FeedState
no_bytes = record { ahead = []; finished = false; line = [] }

-- how much of a piece there is room for
abbrev pub taken_count : FeedState → (piece : List ℕ) → ℕ
taken_count s piece = if s.finished then 0 else min (length piece) (FEED_ROOM - length s.ahead)

abbrev pub after_give : FeedState → (piece : List ℕ) → FeedState
after_give s piece = record { ahead = s.ahead ++ take (taken_count s piece) piece; finished = s.finished; line = [] }

abbrev pub after_finish : FeedState → FeedState
after_finish s = record { ahead = s.ahead; finished = true; line = s.line }

-- a line, and the bytes that stay ahead
pub record Peeled : Type 0 where
  pub line : List ℕ
  pub rest : List ℕ

-- Without an LF that ends it soon enough a line is too long, and its first bytes show it; or it is the last one of a text.
abbrev pub peeled_whole : (finished : Bool) → List ℕ → Option Peeled
peeled_whole finished ahead =
    if nat_lt MAX_EVENT_LINE (length ahead) then Some (record { line = take (MAX_EVENT_LINE + 1) ahead; rest = drop (MAX_EVENT_LINE + 1) ahead })
    else if finished && nat_lt 0 (length ahead) then Some (record { line = ahead; rest = [] })
    else None

-- by where the first LF stands, where it ends a line that isn't too long
abbrev pub peeled_at : (finished : Bool) → List ℕ → Option ℕ → Option Peeled
peeled_at finished ahead (Some end) = Some (record { line = strip_carriage_return (take end ahead); rest = drop (end + 1) ahead })
peeled_at finished ahead None = peeled_whole finished ahead

-- the first line of the bytes ahead, where it is known
abbrev pub peeled : (finished : Bool) → List ℕ → Option Peeled
peeled finished ahead = peeled_at finished ahead (position (λ c. c == 10) (take (MAX_EVENT_LINE + 1) ahead))

abbrev pub answer_by : (finished : Bool) → Option Peeled → FeedStep
answer_by finished (Some p) = Line
answer_by true None = End
answer_by false None = More

-- what `next` answers
abbrev pub next_answer : FeedState → FeedStep
next_answer s = answer_by s.finished (peeled s.finished s.ahead)

abbrev pub left_by : FeedState → Option Peeled → FeedState
left_by s (Some p) = record { ahead = p.rest; finished = s.finished; line = p.line }
left_by s None = record { ahead = s.ahead; finished = s.finished; line = [] }

-- what `next` leaves
abbrev pub after_next : FeedState → FeedState
after_next s = left_by s (peeled s.finished s.ahead)

-- The lines that come out of a feed, where this rest of the text didn't come yet: bytes of it are given at any time, as
-- many as there are and room is left for, and the feed is finished behind the last one.
pub data ComesOut : FeedState → (rest : List ℕ) → (lines : List (List ℕ)) → Type 0 where
  gives : {s : FeedState} {rest : List ℕ} {lines : List (List ℕ)} (n : ℕ) → ComesOut (after_give s (take n rest)) (drop (taken_count s (take n rest)) rest) lines → ComesOut s rest lines
  finishes : {s : FeedState} {lines : List (List ℕ)} → ComesOut (after_finish s) [] lines → ComesOut s [] lines
  waits : {s : FeedState} {rest : List ℕ} {lines : List (List ℕ)} → next_answer s ≡ More → ComesOut (after_next s) rest lines → ComesOut s rest lines
  a_line : {s : FeedState} {rest : List ℕ} {lines : List (List ℕ)} → next_answer s ≡ Line → ComesOut (after_next s) rest lines → ComesOut s rest ((after_next s).line ∷ lines)
  ends : {s : FeedState} → next_answer s ≡ End → ComesOut s [] []

-- lines up to the first that is too long, of which the first bytes that show it stand
abbrev pub lines_to_long : List (List ℕ) → List (List ℕ)
lines_to_long [] = []
lines_to_long (line ∷ more) = if nat_lt MAX_EVENT_LINE (length line) then take (MAX_EVENT_LINE + 1) line ∷ [] else line ∷ lines_to_long more
