-- Which tasks are underway, and what the ceiling protocol keeps of them.
use Rattle.std.specs.{Prelude.{◌≡◌, ◌≢◌, ◌⊎◌, ℕ, ◌<◌, Bool, true, false, not, ◌&&◌, ◌||◌, ◌==◌, length}}
use Rattle.osek_standard.specs.declared.{app.App.{App}, state.State.{State}, task_state.TaskState.{TaskState}}
use Rattle.osek_standard.specs.{Apps.{the_task, is_extended}, TaskStates.{is_live}, States.{is_that_task, place_in, task_of, task_state}}
use Rattle.osek_standard.specs.{Internal.{occupied}, Line.{turn}, Priority.{base_priority, current_priority}}

-- it runs or is interrupted
abbrev pub is_current : State → ℕ → Bool
is_current s t = is_that_task (task_of s.processor) t

module _ (app : App) where
  -- at the first instruction of its first block
  abbrev pub is_first : ℕ → TaskState → Bool
  is_first t x = ((place_in x.activity).block.0 == (the_task app t).first.0) && ((place_in x.activity).offset == 0)

  -- it has a resource, or it is a basic task that is past its first instruction
  abbrev pub has_begun : ℕ → TaskState → Bool
  has_begun t x = not (length (occupied app t x) == 0) || (not (is_extended app t) && not (is_first t x))

  -- Live, and it has begun
  abbrev pub is_begun : ℕ → TaskState → Bool
  is_begun t x = is_live x && has_begun t x

  module _ (s : State) where
    abbrev pub is_underway : ℕ → Bool
    is_underway t = is_begun t (task_state s t)

    -- what the ceiling protocol keeps of the tasks that are underway
    pub record IsStacked : Type 0 where
      -- of two of them the base priority of one is above all that the other has
      pub apart : (t u : ℕ) → t ≢ u → is_underway t ≡ true → is_underway u ≡ true
          → (current_priority app s t < base_priority app u) ⊎ (current_priority app s u < base_priority app t)
      -- that of who runs or is interrupted is above each other one
      pub below : (c u : ℕ) → is_current s c ≡ true → u ≢ c → is_underway u ≡ true → current_priority app s u < base_priority app c
      -- one that is ready comes before each other ready task of the same current priority
      pub ahead : (t u : ℕ) → t ≢ u → is_underway t ≡ true → is_current s t ≡ false → is_live (task_state s u) ≡ true → is_current s u ≡ false
          → current_priority app s t ≡ current_priority app s u → turn s t < turn s u
