-- The start and each step of the kernel keep a state regular.
use Rattle.std.proofs.Common.{◌<◌, length}
use Rattle.osek_values.specs.declared.{event.Event.{Event}, numbers.ModeNo.{ModeNo}}
use Rattle.osek_standard.specs.{declared.{app.App.{App}, state.State.{State}}, Kernel.{start, step}, Well.{Well}}
use Rattle.osek_standard.proofs.InsideLaws.{start_inside, step_inside}
use Rattle.abstract_state.specs.Regular.{IsRegular}

module _ (app : App) where
  -- each event leads from a regular state to a regular one
  pub step_regular : (s : State) (e : Event) → Well app s → IsRegular app s → IsRegular app (step app s e).state
  step_regular s e w h = record { inside = step_inside app s e w h.inside }

  pub start_regular : (mode : ModeNo) → mode.0 < length app.modes → IsRegular app (start app mode).state
  start_regular mode known = record { inside = start_inside app mode known }
