-- What each state of a run has beside being well-formed, and so is asked of the states of a table.
use Rattle.osek_standard.specs.{declared.{app.App.{App}, state.State.{State}}, Internal.{IsInside}}

pub record IsRegular (app : App) (s : State) : Type 0 where
  -- the right tasks are inside
  pub inside : IsInside app s
