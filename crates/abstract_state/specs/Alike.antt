-- States that differ at most in what a table doesn't keep.
use Rattle.std.specs.Prelude.{◌≡◌, ℕ}
use Rattle.osek_standard.specs.{declared.state.State.{State}, States.{task_state, alarm_state, source_state}}
use Rattle.abstract_state.specs.Components.{value_in, source_value, is_armed}

-- the same but for mode, counter values, latches, offsets, due times and cycles
pub record IsAlike (s u : State) : Type 0 where
  pub processor : s.processor ≡ u.processor
  pub tasks : (t : ℕ) → value_in (task_state s t).activity ≡ value_in (task_state u t).activity
  pub events : (t : ℕ) → (task_state s t).events ≡ (task_state u t).events
  pub alarms : (a : ℕ) → is_armed (alarm_state s a) ≡ is_armed (alarm_state u a)
  pub sources : (k : ℕ) → source_value (source_state s k) ≡ source_value (source_state u k)
