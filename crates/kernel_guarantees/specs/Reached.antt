-- The states that runs come to.
use Rattle.std.specs.{Prelude.{◌≡◌, ◌<◌, List, [], ◌∷◌, length}}
use Rattle.osek_values.specs.declared.{event.Event.{Event}, numbers.ModeNo.{ModeNo}}
use Rattle.osek_standard.specs.declared.{app.App.{App}, state.State.{State}}
use Rattle.osek_standard.specs.Kernel.{start, step}

-- the state after these events
abbrev pub after : App → State → List Event → State
after app s [] = s
after app s (e ∷ es) = after app (step app s e).state es

-- a run comes to the state
pub record IsReached (app : App) (s : State) : Type 0 where
  pub mode : ModeNo
  pub known : mode.0 < length app.modes
  pub events : List Event
  pub comes : after app (start app mode).state events ≡ s
