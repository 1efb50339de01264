-- What a machine prints for the lines of an event text that are ahead, and how it ends.
use Rattle.std.specs.{Prelude.{◌≡◌, ◌⊎◌, ℕ, ◌+◌, ◌≤◌, ◌==◌, true, false, List, [], ◌∷◌, ◌++◌, length, Option, Some, None, Result, Ok, Err}, List.{enumerate_from, position}}
use Rattle.osek_values.specs.declared.{limits.TheConstants.{MAX_EVENT_TEXT}, event.Event.{Event}, numbers.ModeNo.{ModeNo}}
use Rattle.osek_standard.specs.{declared.state.State.{State}, Dispatch.{Stepped}, Kernel.{start}, Points.{point_of}, TraceText.{line_text}}
use Rattle.image_model.specs.{declared.image.Image.{Image}, ImageStep.{image_step}, ImageTrace.{trap_line}}
use Rattle.trace_text.specs.{EventText.{text_lines, numbered_lines}, Feeds.{FeedState}, EventWords.{read_line}, PointTexts.{point_text}, declared.fault.EventFault.{EventFault}}
use Rattle.osek_io.specs.{Counts.{Rose}, Files.{Files}, HeldBytes.{PassesOn}, Sunk.{Sunk, Writes}}
use Rattle.command_runs.specs.{Inputs.{OfFile}, Telling.{Breaks}}
use Rattle.command_runs.specs.declared.stop.Input.TheVariants as input
use Rattle.command_runs.specs.declared.{showing.Showing.{Showing}, stop.Stop.{Stop}}
use Rattle.command_runs.specs.declared.showing.Showing.TheVariants as showing
use Rattle.command_runs.specs.declared.stop.Stop.TheVariants as stop

-- a sink, and what a buffer holds back from it
pub record Given : Type 0 where
  pub out : Sunk
  pub held : List ℕ

abbrev pub given : Sunk → List ℕ → Given
given out held = record { out = out; held = held }

-- The text was put behind what was held back: a prefix of both was written, no write failed, and the rest is held back.
abbrev pub Puts : Given → Given → (text : List ℕ) → Type 0
Puts old new text = (new.out.faults ≡ old.out.faults) × PassesOn old.out.written new.out.written (old.held ++ text) new.held

-- A write failed: a prefix of both was written, and nothing is held back.
abbrev pub PutsPrefix : Given → Given → (text : List ℕ) → Type 0
PutsPrefix old new text = Breaks old.out new.out (old.held ++ text) × (new.held ≡ [])

-- what is printed, and at a stop why
pub record Played : Type 0 where
  pub text : List ℕ
  pub end : Result (Unit {0}) Stop

abbrev pub played : List ℕ → Result (Unit {0}) Stop → Played
played text end = record { text = text; end = end }

abbrev pub printing : List ℕ → Played → Played
printing text p = played (text ++ p.text) p.end

-- the point of a state, as it is printed
abbrev pub point_line : Image → State → List ℕ
point_line i s = point_text i.app (point_of s) ++ 10 ∷ []

-- step n as it is printed: its line of the trace, or the point of its state
abbrev pub line_of : Showing → Image → ℕ → Stepped → List ℕ
line_of showing.Trace i n x = line_text i.app n x ++ 10 ∷ []
line_of showing.Points i n x = point_line i x.state

-- event n: its line and then the rest, or the line of a trap
abbrev pub played_after : Showing → Image → ℕ → (State → Played) → Option Stepped → Played
played_after w i n more None = played (trap_line n) (Err stop.Trapped)
played_after w i n more (Some x) = printing (line_of w i n x) (more x.state)

-- a line: no event, a fault that ends all, or event n in a state, with what comes after it
abbrev pub played_line : Showing → Image → ℕ → State → ℕ → (ℕ → State → Played) → Result (Option Event) EventFault → Played
played_line w i n s line more (Ok None) = more n s
played_line w i n s line more (Ok (Some e)) = played_after w i n (more (n + 1)) (image_step i s e)
played_line w i n s line more (Err rule) = played [] (Err (stop.Events (record { line = line; rule = rule })))

abbrev pub plays : Showing → Image → List (ℕ × List ℕ) → ℕ → State → Played
plays w i [] n s = played [] (Ok tt)
plays w i (line ∷ more) n s = played_line w i n s line.0 (plays w i more) (read_line i.app line.1)

-- What playing a line answers and leaves, whatever comes after it: how many events there were next, in which state, what
-- was printed; or an end of the play.
pub record GoesOn (printed printed_after : Given) (line : (ℕ → State → Played) → Played) (next : ℕ) (s : State) : Type 0 where
  pub text : List ℕ
  pub prints : Puts printed printed_after text
  pub goes_on : (more : ℕ → State → Played) → line more ≡ printing text (more next s)

-- What is left of a play: all was printed, to its end, or a write failed.
abbrev pub PlayAnswers : (out out_after : Sunk) → Played → Result (Unit {0}) Stop → Type 0
PlayAnswers out out_after p r =
    ((r ≡ p.end) × Writes out out_after p.text)
    ⊎ ((r ≡ Err stop.Unprinted) × Breaks out out_after p.text)

-- the same of a play whose texts are held back
abbrev pub HeldAnswers : Given → Given → Played → Result (Unit {0}) Stop → Type 0
HeldAnswers printed printed_after p r =
    ((r ≡ p.end) × Puts printed printed_after p.text)
    ⊎ ((r ≡ Err stop.Unprinted) × PutsPrefix printed printed_after p.text)

-- What playing event n answers and leaves: the line of the step was printed, or of a trap.
abbrev pub AnswersEvent : Given → Given → Showing → Image → ℕ → State → Option Stepped → Result (Unit {0}) Stop → Type 0
AnswersEvent printed printed_after w i n s None r = HeldAnswers printed printed_after (played (trap_line n) (Err stop.Trapped)) r
AnswersEvent printed printed_after w i n s (Some x) r = (s ≡ x.state) × HeldAnswers printed printed_after (played (line_of w i n x) (Ok tt)) r

abbrev pub AnswersLine : Given → Given → ((ℕ → State → Played) → Played) → (next : ℕ) → State → Result (Unit {0}) Stop → Type 0
AnswersLine printed printed_after line next s (Ok done) = GoesOn printed printed_after line next s
AnswersLine printed printed_after line next s (Err e) = (more : ℕ → State → Played) → HeldAnswers printed printed_after (line more) (Err e)

-- what is played of the lines that a feed has ahead, where this rest of the text comes behind them: line k is the next one
abbrev pub plays_fed : Showing → Image → FeedState → (rest : List ℕ) → (k n : ℕ) → State → Played
plays_fed w i f rest k n s = plays w i (enumerate_from k (text_lines (f.ahead ++ rest))) n s

-- What may come behind what a feed has ahead: nothing once it is finished.
abbrev pub MayFollow : FeedState → (rest : List ℕ) → Type 0
MayFollow f rest = f.finished ≡ true → rest ≡ []

-- No byte stands behind the LF of the last line.
abbrev pub HaveEnded : (lines : List ℕ) → Type 0
HaveEnded lines = (lines ≡ []) ⊎ ((before : List ℕ) × (lines ≡ before ++ 10 ∷ []))

-- no line ends here
abbrev pub HasNoEnd : List ℕ → Type 0
HasNoEnd begun = position (λ c. c == 10) begun ≡ None

-- Lines went from the start of the bytes ahead: they have ended, and what the play of them prints needs nothing behind them.
pub record TakesLines (ahead ahead_after : List ℕ) (w : Showing) (i : Image) (k n : ℕ) (s : State) (l m : ℕ) (t : State) (text : List ℕ) : Type 0 where
  pub lines : List ℕ
  pub parts : ahead ≡ lines ++ ahead_after
  pub ended : HaveEnded lines
  pub alone : (rest : List ℕ) → plays w i (enumerate_from k (text_lines (lines ++ rest))) n s ≡ printing text (plays w i (enumerate_from l (text_lines rest)) m t)

-- The play went on from one feed, line, event and state to another ones: what it printed is the same whatever follows.
pub record PlaysOn (printed printed_after : Given) (w : Showing) (i : Image) (f g : FeedState) (k n : ℕ) (s : State) (l m : ℕ) (t : State) : Type 0 where
  pub text : List ℕ
  pub prints : Puts printed printed_after text
  pub goes_on : (rest : List ℕ) → MayFollow f rest → plays_fed w i f rest k n s ≡ printing text (plays_fed w i g rest l m t)
  pub takes : f.finished ≡ false → TakesLines f.ahead g.ahead w i k n s l m t text

-- A read of a text failed behind its lines that have ended and a line that has begun. All that the play of those lines prints
-- was printed: it is the prefix of what the play of the whole text prints.
pub record StopsBehind (reads reads_after : ℕ → ℕ) (Prints : List ℕ → Type 0) (play : List ℕ → Played) (text : List ℕ) : Type 0 where
  pub lines : List ℕ
  pub begun : List ℕ
  pub rest : List ℕ
  pub parts : text ≡ (lines ++ begun) ++ rest
  pub ended : HaveEnded lines
  pub no_more : HasNoEnd begun
  pub unread : Rose (reads (length (lines ++ begun))) (reads_after (length (lines ++ begun)))
  pub prints : Prints (play lines).text
  pub back : List ℕ
  pub prefix : (play text).text ≡ (play lines).text ++ back

-- What is left of a play of an event text that is read as it goes, in which at most one read or write fails. It was played
-- to its end, and no read failed; or a read failed and no write, so that all that was due of the text so far had been
-- printed before that read.
abbrev pub ReadAnswers : Option Files → (events : List ℕ) → (reads reads_after : ℕ → ℕ) → (out out_after : Sunk) → (play : List ℕ → Played) → Result (Unit {0}) Stop → Type 0
ReadAnswers files events reads reads_after out out_after play r =
    (((at : ℕ) → reads_after at ≡ reads at) × OfFile files events (λ text. (length text ≤ MAX_EVENT_TEXT) × PlayAnswers out out_after (play text) r))
    ⊎ ((r ≡ Err (stop.Unread input.Events)) × OfFile files events (λ text. (length text ≤ MAX_EVENT_TEXT) × StopsBehind reads reads_after (Writes out out_after) play text))

-- the same of a play whose texts are held back: nothing is held back where a read fails
abbrev pub HeldReadAnswers : Option Files → (events : List ℕ) → (reads reads_after : ℕ → ℕ) → Given → Given → (play : List ℕ → Played) → Result (Unit {0}) Stop → Type 0
HeldReadAnswers files events reads reads_after printed printed_after play r =
    (((at : ℕ) → reads_after at ≡ reads at) × OfFile files events (λ text. (length text ≤ MAX_EVENT_TEXT) × HeldAnswers printed printed_after (play text) r))
    ⊎ ((r ≡ Err (stop.Unread input.Events)) × (printed_after.held ≡ []) × OfFile files events (λ text. (length text ≤ MAX_EVENT_TEXT) × StopsBehind reads reads_after (Puts printed printed_after) play text))

-- what is printed of an image from its start in a mode, under the lines of an event text
abbrev pub whole_play : Showing → Image → ModeNo → List ℕ → Played
whole_play w i m text = printing (line_of w i 0 (start i.app m)) (plays w i (numbered_lines text) 1 (start i.app m).state)

-- The text was played as it was read, or nothing as memory ran out.
abbrev pub PlaysWhole : Option Files → (events : List ℕ) → (reads reads_after : ℕ → ℕ) → (out out_after : Sunk) → Showing → Image → ModeNo → Result (Unit {0}) Stop → Type 0
PlaysWhole files events reads reads_after out out_after w i m r =
    ((r ≡ Err stop.Memory) × (out_after ≡ out)) ⊎ ReadAnswers files events reads reads_after out out_after (whole_play w i m) r
