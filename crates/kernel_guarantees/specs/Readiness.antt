-- Tasks that are ready, and how long they stay so (ISO 17356-3, task state model).
use Rattle.std.specs.Prelude.{◌≡◌, ℕ, ◌+◌, ◌<◌, ◌≤◌, ◌==◌, if◌then◌else◌, List, [], ◌∷◌, true, false}
use Rattle.osek_values.specs.declared.{event.Event.{Event}, numbers.TaskNo.{TaskNo}}
use Rattle.osek_standard.specs.{declared.{app.App.{App}, state.State.{State}}, TaskStates.{is_live}, States.{task_state}, Kernel.{step}, Line.{turn}, Priority.{base_priority, current_priority}}
use Rattle.kernel_guarantees.specs.{Activations.{one_if}, Underway.{is_current, is_underway}}

-- Live, and it neither runs nor is interrupted
abbrev pub IsReady : State → ℕ → Type 0
IsReady s t = (is_live (task_state s t) ≡ true) × (is_current s t ≡ false)

-- along these events it is ready in each state, so it doesn't get the processor
abbrev pub IsReadyAlong : App → ℕ → State → List Event → Type 0
IsReadyAlong app t s [] = IsReady s t
IsReadyAlong app t s (e ∷ es) = IsReady s t × IsReadyAlong app t (step app s e).state es

-- t is ready and comes before u, which has no higher own priority and hasn't begun: u is suspended or waits, or stands behind t
-- in the line
pub record GoesAhead (app : App) (s : State) (t u : ℕ) : Type 0 where
  pub ready : IsReady s t
  pub beside : is_current s u ≡ false
  pub fresh : is_underway app s u ≡ false
  pub under : base_priority app u ≤ current_priority app s t
  pub sooner : turn s t < turn s u

-- how often u stands in the line before t's first place
abbrev pub places_before : List TaskNo → ℕ → ℕ → ℕ
places_before [] t u = 0
places_before (n ∷ line) t u = if n.0 == t then 0 else one_if (n.0 == u) + places_before line t u

-- the activations of u that come before the one with which t is ready, and haven't ended: those that stand before it in the
-- line, and one that has the processor
abbrev pub earlier : State → ℕ → ℕ → ℕ
earlier s t u = places_before s.line t u + one_if (is_current s u)
