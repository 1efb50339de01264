-- Routines over each other, and over the task that they interrupted (ISO 17356-3, interrupt processing).
use Rattle.std.specs.Prelude.{◌≡◌, ◌≢◌, ◌⊎◌, ℕ, ◌<◌, ◌≤◌, true, Some, List, [], ◌∷◌}
use Rattle.std.specs.declared.option.Option.{Option}
use Rattle.osek_values.specs.declared.event.Event.{Event}
use Rattle.osek_values.specs.declared.numbers.{SourceNo.{SourceNo}, TaskNo.{TaskNo}}
use Rattle.oil_system.specs.declared.objects.Schedule.TheVariants.{Full}
use Rattle.osek_standard.specs.declared.{app.App.{App}, state.{State.{State}, Processor.{Processor}}}
use Rattle.osek_standard.specs.{Apps.{source_priority, the_block, the_task}, TaskStates.{held, is_inside}, States.{here, is_in, place_in, source_state, task_of, task_state}, Levels.{routine_level, task_level}, Arrivals.{arrival, entered}, Kernel.{step}, Priority.{current_priority}}
use Rattle.osek_standard.specs.declared.state.Processor.TheVariants as processor
use Rattle.osek_standard.specs.declared.block.Kind.TheVariants as kind
use Rattle.kernel_guarantees.specs.Reached.{after}

-- the level of one routine, by what it holds
abbrev pub level_of : App → State → ℕ → ℕ
level_of app s k = routine_level app k (source_state s k)

-- it began and hasn't ended
abbrev pub IsIn : State → ℕ → Type 0
IsIn s k = is_in (source_state s k) ≡ true

pub record IsNested (app : App) (s : State) : Type 0 where
  -- of two routines that are in, the level of one doesn't keep the other out
  pub apart : (k l : ℕ) → k ≢ l → IsIn s k → IsIn s l → (level_of app s k ≤ source_priority app l) ⊎ (level_of app s l ≤ source_priority app k)
  -- that of the greatest priority has the processor
  pub greatest : (k : SourceNo) (over : Option TaskNo) (l : ℕ) → s.processor ≡ processor.Interrupted k over → IsIn s l → source_priority app l ≤ source_priority app k.0
  -- what the interrupted task has keeps none of them out
  pub task : (k : ℕ) → IsIn s k → task_level app s (task_of s.processor) ≤ source_priority app k

-- it hasn't ended before any of these events, nor after them
abbrev pub StaysIn : App → State → ℕ → List Event → Type 0
StaysIn app s k [] = IsIn s k
StaysIn app s k (e ∷ es) = IsIn s k × StaysIn app (step app s e).state k es

-- routine k begins in state s, and a state n comes after that, before k ends
pub record IsDuring (app : App) (s : State) (k : SourceNo) (n : State) : Type 0 where
  pub arrives : arrival app s ≡ Some k
  pub events : List Event
  pub stays : StaysIn app (entered app s k) k.0 events
  pub comes : after app (entered app s k) events ≡ n

-- back to a task; where it is preemptive, another one that is above it may get the processor
abbrev pub GoesBackTo : App → State → TaskNo → Processor → Type 0
GoesBackTo app s t p =
    (p ≡ processor.Running t) ⊎ (((the_task app t.0).schedule ≡ Full) × (x : TaskNo) × (p ≡ processor.Running x) × (current_priority app s t.0 < current_priority app s x.0))

-- a task stands where it stood, with what it took, and has its INTERNAL resource as it had it
pub record StandsAsIn (s n : State) (t : ℕ) : Type 0 where
  pub place : place_in (task_state n t).activity ≡ place_in (task_state s t).activity
  pub resources : held (task_state n t) ≡ held (task_state s t)
  pub inside : is_inside (task_state n t) ≡ is_inside (task_state s t)

-- the routine's end is what the processor does next
pub record IsEndOf (app : App) (s : State) (k : SourceNo) : Type 0 where
  pub over : Option TaskNo
  pub runs : s.processor ≡ processor.Interrupted k over
  pub ends : (the_block app (here s).block.0).kind ≡ kind.IsrEnd
