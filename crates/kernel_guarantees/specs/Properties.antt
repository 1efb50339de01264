-- What pins the values that definitions compute: the current priority, the interrupt level, the routine that goes on, and the
-- first place of a task in the line.
use Rattle.std.specs.Prelude.{◌≡◌, ◌≢◌, ◌⊎◌, ℕ, ◌<◌, ◌≤◌, true, List, ◌∷◌, ◌++◌, Contains}
use Rattle.osek_values.specs.{Numbers.{task_no}, declared.numbers.TaskNo.{TaskNo}}
use Rattle.osek_standard.specs.declared.{app.App.{App}, state.State.{State}}
use Rattle.osek_standard.specs.{Apps.{source_priority}, Levels.{interrupt_ceiling, own_level}, Priority.{base_priority, ceiling}}
use Rattle.kernel_guarantees.specs.{Nesting.{IsIn}, Resources.{Holds, Occupies, OfRoutine}, Underway.{is_current}}

-- n is the greatest of a task's own priority and of the ceilings of what it has
pub record IsCurrentPriority (app : App) (s : State) (t n : ℕ) : Type 0 where
  pub own : base_priority app t ≤ n
  pub ceilings : (r : ℕ) → Occupies app s t r → ceiling app r ≤ n
  pub one_is : (n ≡ base_priority app t) ⊎ ((r : ℕ) × Occupies app s t r × (n ≡ ceiling app r))

-- what keeps routines of lower priorities out: one that is in, a resource that one holds, and a resource that the running or
-- interrupted task has
pub data KeepsOut (app : App) (s : State) : ℕ → Type 0 where
  Routine : (k : ℕ) → IsIn s k → KeepsOut app s (own_level app k)
  HeldByRoutine : (k r : ℕ) → Holds s (OfRoutine k) r → KeepsOut app s (interrupt_ceiling app r)
  HadByTask : (t r : ℕ) → is_current s t ≡ true → Occupies app s t r → KeepsOut app s (interrupt_ceiling app r)

-- n is the greatest of these, or 0 where there are none
pub record IsLevel (app : App) (s : State) (n : ℕ) : Type 0 where
  pub each : (m : ℕ) → KeepsOut app s m → m ≤ n
  pub one_is : (n ≡ 0) ⊎ KeepsOut app s n

-- the routine of k is in, and each other one that is has a lower priority, or the same and a greater number
pub record GoesOn (app : App) (s : State) (k : ℕ) : Type 0 where
  pub began : IsIn s k
  pub others : (l : ℕ) → IsIn s l → l ≢ k → (source_priority app l < source_priority app k) ⊎ ((source_priority app l ≡ source_priority app k) × (k < l))

-- a task has no place in the line
abbrev pub HasNoPlace : List TaskNo → ℕ → Type 0
HasNoPlace line t = (n : TaskNo) → Contains line n → n.0 ≢ t

-- a task's first place parts the line: before it the task has none
pub record IsParted (line : List TaskNo) (t : ℕ) (before behind : List TaskNo) : Type 0 where
  pub is : line ≡ before ++ task_no t ∷ behind
  pub first : HasNoPlace before t
