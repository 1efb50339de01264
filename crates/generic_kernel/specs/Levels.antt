-- Which tasks are Live and how high each is, as what keeps them has it: task by task.
use Rattle.std.specs.{Prelude.{◌≡◌, ℕ, Bool, true, false, List, Some, None, slice_index_or}, declared.option.Option.{Option}}
use Rattle.osek_standard.specs.{declared.{app.App.{App}, state.State.{State}}, TaskStates.{is_live}, States.{task_state}, Priority.{current_priority}}

abbrev pub level_if : Bool → ℕ → Option ℕ
level_if false p = None
level_if true p = Some p

-- the priority that a level has
abbrev pub priority_in : Option ℕ → ℕ
priority_in None = 0
priority_in (Some p) = p

-- one task more, where it has a level
abbrev pub count_of : Option ℕ → ℕ
count_of None = 0
count_of (Some p) = 1

module _ (app : App) (s : State) where
  -- the current priority of a Live task; another task has none
  abbrev pub level : ℕ → Option ℕ
  level t = level_if (is_live (task_state s t)) (current_priority app s t)

  -- each task's level, in order of declaration, and none past the tasks
  abbrev pub IsReady : List (Option ℕ) → Type 0
  IsReady levels = (t : ℕ) → slice_index_or levels t None ≡ level t
