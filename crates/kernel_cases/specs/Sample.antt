-- How large the application of the tests is, and its state.
use Rattle.std.specs.Prelude.{◌≡◌, false, [], ◌∷◌, length}
use Rattle.osek_values.specs.Numbers.{mode_no}
use Rattle.osek_standard.specs.{declared.{app.App.{App}, state.{State.{State}, Source.TheVariants.{Out}, Processor.TheVariants.{Idle}}}, TaskStates.{suspended}}

-- one task, ISR, counter and mode, and no alarm
pub record IsOfSampleSize (app : App) : Type 0 where
  pub tasks : length app.tasks ≡ 1
  pub isrs : length app.isrs ≡ 1
  pub counters : length app.counters ≡ 1
  pub alarms : length app.alarms ≡ 0
  pub modes : length app.modes ≡ 1

abbrev pub sample_state : State
sample_state = record {
  mode = mode_no 0;
  processor = Idle;
  tasks = suspended ∷ [];
  counters = 0 ∷ [];
  alarms = [];
  sources = Out ∷ Out ∷ [];
  latched = false ∷ false ∷ [];
  line = [];
}
