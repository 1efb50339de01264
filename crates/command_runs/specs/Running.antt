-- The answers of a run of an application in a mode under an event text, each with its cause and what it leaves. The
-- traces, by mode and events, are those of an image or of the kernel, as are the runs that trap.
use Rattle.std.specs.{Prelude.{◌≡◌, ℕ, ◌≤◌, Bool, true, false, List, length, Option, Some, None, Result, Ok, Err, option_map}, List.{position}, Str.{bytes_eq}}
use Rattle.osek_values.specs.{declared.{event.Event.{Event}, numbers.ModeNo.{ModeNo}, limits.TheConstants.{MAX_EVENT_TEXT}}, Numbers.{mode_no}}
use Rattle.osek_standard.specs.declared.app.App.{App}
use Rattle.osek_io.specs.Sunk.{Writes}
use Rattle.trace_text.specs.{EventText.{read_text}, declared.fault.FaultyLine.{FaultyLine}}
use Rattle.command_runs.specs.{Inputs.{OfFile, NotLoaded}, Outside.{Told, Outside}, Playing.{Played, played, PlayAnswers, StopsBehind}}
use Rattle.command_runs.specs.declared.stop.Input.TheVariants as input
use Rattle.command_runs.specs.declared.stop.Stop.{Stop}
use Rattle.command_runs.specs.declared.stop.Stop.TheVariants as stop

-- the number of the mode of a name
abbrev pub mode_named : App → List ℕ → Option ModeNo
mode_named app name = option_map mode_no (position (bytes_eq name) app.modes)

-- why an event text isn't loaded
abbrev pub EventsStop : (before after : Told) → (events : List ℕ) → Stop → Type 0
EventsStop before after events = NotLoaded before after input.Events events

-- how a run ends: at a trap, at a faulty line of the event text, or with the text
abbrev pub end_of : (traps : Bool) → Option FaultyLine → Result (Unit {0}) Stop
end_of true fault = Err stop.Trapped
end_of false None = Ok tt
end_of false (Some f) = Err (stop.Events f)

-- what a run prints, the trace under the events of the text up to its first fault, and how it ends
abbrev pub whole_run : App → (trace : ModeNo → List Event → List ℕ) → (traps : ModeNo → List Event → Bool) → ModeNo → (text : List ℕ) → Played
whole_run app trace traps m text = let read = read_text app text in played (trace m read.events) (end_of (traps m read.events) read.fault)

-- The application has no mode of the name; its mode is there, and the event text isn't loaded: nothing was printed, as
-- where memory ran out; or the text is within its limit, and the run was printed to its end or to a failed write, and no
-- read of the text failed, or to a failed read of the text: all that was due of what had been read, and no write failed.
pub data RunAnswers (before after : Outside) (app : App) (trace : ModeNo → List Event → List ℕ) (traps : ModeNo → List Event → Bool) (mode events : List ℕ) : Result (Unit {0}) Stop → Type 0 where
  no_mode : mode_named app mode ≡ None → after.out ≡ before.out → RunAnswers before after app trace traps mode events (Err stop.NoMode)
  stops : (m : ModeNo) (s : Stop) → mode_named app mode ≡ Some m → EventsStop before.shelf after.shelf events s → after.out ≡ before.out → RunAnswers before after app trace traps mode events (Err s)
  plays : (m : ModeNo) (r : Result (Unit {0}) Stop) → mode_named app mode ≡ Some m
      → ((at : ℕ) → after.shelf.reads events at ≡ before.shelf.reads events at)
      → OfFile before.shelf.files events (λ text. (length text ≤ MAX_EVENT_TEXT) × PlayAnswers before.out after.out (whole_run app trace traps m text) r)
      → RunAnswers before after app trace traps mode events r
  unread_on : (m : ModeNo) → mode_named app mode ≡ Some m
      → OfFile before.shelf.files events (λ text. (length text ≤ MAX_EVENT_TEXT) × StopsBehind (before.shelf.reads events) (after.shelf.reads events) (Writes before.out after.out) (whole_run app trace traps m) text)
      → RunAnswers before after app trace traps mode events (Err (stop.Unread input.Events))
