-- The answers of `trace`, each with its cause and what it leaves.
use Rattle.std.specs.Prelude.{◌≡◌, ℕ, Bool, false, List, Result, Err}
use Rattle.osek_values.specs.declared.{event.Event.{Event}, numbers.ModeNo.{ModeNo}}
use Rattle.osek_standard.specs.TraceText.{kernel_trace}
use Rattle.commands.specs.Compiling.{OfApp, CompileStops}
use Rattle.command_runs.specs.{Outside.{Outside}, Running.{RunAnswers}, declared.stop.Stop.{Stop}}

-- the kernel never traps
abbrev pub never : ModeNo → List Event → Bool
never mode events = false

-- `trace` stops at the texts and prints nothing, or the application runs and the kernel's trace is printed.
pub data TraceAnswers (before after : Outside) (oil code mode events : List ℕ) : Result (Unit {0}) Stop → Type 0 where
  stops : (s : Stop) → CompileStops before.shelf after.shelf oil code s → after.out ≡ before.out → TraceAnswers before after oil code mode events (Err s)
  runs : (r : Result (Unit {0}) Stop) → OfApp before.shelf.files oil code (λ app. RunAnswers before after app (kernel_trace app) never mode events r) → TraceAnswers before after oil code mode events r
