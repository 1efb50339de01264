-- What becomes of the components: of a task, of its events, of an alarm, of a source.
use Rattle.std.specs.Prelude.{ℕ, Bool, false, List, [], ◌∷◌, map}
use Rattle.osek_values.specs.{Bits.{bits_of}, Numbers.{task_no, event_no, alarm_no, source_no}}
use Rattle.osek_standard.specs.{declared.app.App.{App}, Apps.{the_task}}
use Rattle.abstract_state.specs.declared.value.{Val.{Val, TheVariants.{Live}}, SourceVal.{SourceVal}, PartValue.TheVariants.{OfTask, OfEvent, OfAlarm, OfSource}}
use Rattle.abstract_state.specs.declared.value.Component.TheVariants as component
use Rattle.abstract_state.specs.Components.{component_number, live_val}
use Rattle.flow_model.specs.declared.change.Change.{Change}
use Rattle.flow_model.specs.declared.change.Update.TheVariants as update
use Rattle.flow_model.specs.Runners.{change}

-- a task becomes this
abbrev pub task_change : ℕ → Val → Change
task_change t v = change t (update.Set (OfTask v))

module _ (app : App) where
  -- an alarm becomes armed or idle
  abbrev pub alarm_change : ℕ → Bool → Change
  alarm_change a armed = change (component_number app (component.Alarm (alarm_no a))) (update.Set (OfAlarm armed))

  -- a source becomes this
  abbrev pub source_change : ℕ → SourceVal → Change
  source_change k v = change (component_number app (component.Source (source_no k))) (update.Set (OfSource v))

  -- an event of a task becomes set or unset
  abbrev pub event_change : ℕ → Bool → ℕ → Change
  event_change t flag k = change (component_number app (component.Event (task_no t) (event_no k))) (update.Set (OfEvent flag))

  -- and so do those of these bits
  abbrev pub event_changes : ℕ → ℕ → Bool → List Change
  event_changes t bits flag = map (event_change t flag) (bits_of bits)

  -- an activated task: at its first block, with nothing held, and outside
  abbrev pub started : ℕ → Val
  started t = Live (live_val (the_task app t).first 0 false [])

  -- an activation: the task begins, and none of its events is set
  abbrev pub activating : ℕ → List Change
  activating t = task_change t (started t) ∷ event_changes t (the_task app t).own.0 false

-- a further activation of a Live task, which keeps its events
abbrev pub activating_more : ℕ → List Change
activating_more t = change t update.More ∷ []
