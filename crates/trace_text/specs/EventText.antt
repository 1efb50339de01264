-- The lines of an event text, and what it says up to its first fault (this project's profile).
use Rattle.std.specs.{Prelude.{ℕ, ◌==◌, nat_lt, List, [], ◌∷◌, length, if◌then◌else◌, Some, None, Ok, Err}, List.{slice_split, enumerate_from}, Str.Lines.{strip_carriage_return}}
use Rattle.std.specs.declared.{option.Option.{Option}, result.Result.{Result}}
use Rattle.osek_values.specs.declared.{limits.TheConstants.{MAX_EVENT_LINE, MAX_EVENT_TEXT}, event.Event.{Event}}
use Rattle.osek_standard.specs.declared.app.App.{App}
use Rattle.trace_text.specs.{declared.fault.{EventFault.{EventFault, TheVariants.{E4}}, FaultyLine.{FaultyLine}}, EventWords.{read_line}}

-- A CR right before an LF is dropped. It counts for the bytes of its line, so a line that is longer with it stays as it is.
abbrev pub ended_line : List ℕ → List ℕ
ended_line line = if nat_lt MAX_EVENT_LINE (length line) then line else strip_carriage_return line

-- the lines in the parts between LFs: behind the last LF stands a line only if a byte does, and its CR is its own
abbrev pub lines_in : List (List ℕ) → List (List ℕ)
lines_in [] = []
lines_in ([] ∷ []) = []
lines_in ((c ∷ cs) ∷ []) = (c ∷ cs) ∷ []
lines_in (line ∷ next ∷ more) = ended_line line ∷ lines_in (next ∷ more)

-- the lines of a text
abbrev pub text_lines : List ℕ → List (List ℕ)
text_lines text = lines_in (slice_split (λ c. c == 10) text)

-- the lines of a text, each with its number
abbrev pub numbered_lines : List ℕ → List (ℕ × List ℕ)
numbered_lines text = enumerate_from 1 (text_lines text)

-- the events of a text up to its first fault, and that fault
pub record Reading : Type 0 where
  pub events : List Event
  pub fault : Option FaultyLine

abbrev pub nothing_read : Reading
nothing_read = record { events = []; fault = None }

abbrev pub fault_at : ℕ → EventFault → Reading
fault_at n e = record { events = []; fault = Some (record { line = n; rule = e }) }

-- what line n says comes before what the rest says
abbrev pub with_line : ℕ → Result (Option Event) EventFault → Reading → Reading
with_line n (Ok None) rest = rest
with_line n (Ok (Some e)) rest = record { events = e ∷ rest.events; fault = rest.fault }
with_line n (Err e) rest = fault_at n e

abbrev pub read_lines : App → List (ℕ × List ℕ) → Reading
read_lines app [] = nothing_read
read_lines app (line ∷ more) = with_line line.0 (read_line app line.1) (read_lines app more)

-- What an event text says. A text over MAX_EVENT_TEXT bytes is faulty as a whole.
abbrev pub read_text : App → List ℕ → Reading
read_text app text = if nat_lt MAX_EVENT_TEXT (length text) then fault_at 0 E4 else read_lines app (numbered_lines text)
