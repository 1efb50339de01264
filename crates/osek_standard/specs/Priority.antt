-- Priorities under the priority ceiling protocol (ISO 17356-3, OSEK priority ceiling protocol), and the task that is
-- to run (ISO 17356-3, task priority).
use Rattle.std.specs.{Prelude.{◌≡◌, ◌≢◌, ◌⊎◌, ℕ, ◌*◌, ◌<◌, max, Bool, ◌==◌, nat_lt, nat_le, ◌&&◌, ◌||◌, List, true, option_map}, List.{fold, find, list_all}}
use Rattle.std.specs.declared.option.Option.{Option}
use Rattle.osek_values.specs.{declared.numbers.{TaskNo.{TaskNo}, ResNo.{ResNo}}, Numbers.{task_no}}
use Rattle.osek_standard.specs.{declared.{app.App.{App}, state.State.{State}}, Apps.{the_task, the_resource}, TaskStates.{is_live}, States.{task_state, live_tasks}}
use Rattle.osek_standard.specs.{Internal.{occupied}, Line.{turn}}

-- the number that goes before each of them, if there is one
unfoldable pub first_of_all : (ℕ → ℕ → Bool) → List ℕ → Option ℕ
first_of_all before xs = find (λ x. list_all (before x) xs) xs

-- between equal priorities: the one whose turn is earlier goes first
abbrev pub precedes : State → ℕ → ℕ → Bool
precedes s t u = nat_le (turn s t) (turn s u)

module _ (app : App) where
  -- a task of priority p has base 2p, so that the ceilings 2m+1 lie between two tasks
  abbrev pub base_priority : ℕ → ℕ
  base_priority t = 2 * (the_task app t).priority

  abbrev pub ceiling : ℕ → ℕ
  ceiling r = (the_resource app r).ceiling

  -- the greatest of the base and the ceilings of these resources
  unfoldable pub highest : ℕ → List ResNo → ℕ
  highest base resources = fold (λ p r. max p (ceiling r.0)) base resources

  module _ (s : State) where
    abbrev pub current_priority : ℕ → ℕ
    current_priority t = highest (base_priority t) (occupied app t (task_state s t))

    -- it has the higher current priority, or the same and precedes
    abbrev pub goes_before : ℕ → ℕ → Bool
    goes_before t u =
        nat_lt (current_priority u) (current_priority t)
        || ((current_priority t == current_priority u) && precedes s t u)

    -- the Live task that goes before each Live task, if a task is Live
    unfoldable pub best : Option TaskNo
    best = option_map task_no (first_of_all goes_before (live_tasks s))

    -- the same as a property: each other Live task has a lower current priority, or the same and a later turn
    pub record IsBest (t : ℕ) : Type 0 where
      pub live : is_live (task_state s t) ≡ true
      pub others : (u : ℕ) → is_live (task_state s u) ≡ true → u ≢ t →
          (current_priority u < current_priority t) ⊎ ((current_priority u ≡ current_priority t) × (turn s t < turn s u))
