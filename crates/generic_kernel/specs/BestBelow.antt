-- The highest and the best of the tasks below a number, and whether there is one.
use Rattle.std.specs.{Prelude.{◌≡◌, ◌≢◌, ℕ, ◌<◌, ◌≤◌, true, false, MatchOption, Some, None}, declared.option.Option.{Option}}
use Rattle.osek_values.specs.declared.{numbers.TaskNo.{TaskNo}}
use Rattle.osek_standard.specs.{declared.{app.App.{App}, state.State.{State}}, TaskStates.{is_live}, States.{task_state}, Priority.{current_priority, goes_before}}
use Rattle.generic_kernel.specs.declared.ready.Highest.{Highest}

-- 1 where there is one
abbrev pub some_of : {X : Type 0} → Option X → ℕ
some_of None = 0
some_of (Some x) = 1

module _ (app : App) (s : State) where
  -- a Live task that goes before each Live task below the number
  pub record IsBestOfBelow (n t : ℕ) : Type 0 where
    pub live : is_live (task_state s t) ≡ true
    pub first : (u : ℕ) → u < n → is_live (task_state s u) ≡ true → goes_before app s t u ≡ true

  abbrev pub NoneBelow : ℕ → Type 0
  NoneBelow n = (u : ℕ) → u < n → is_live (task_state s u) ≡ false

  abbrev pub IsBestBelow : ℕ → Option TaskNo → Type 0
  IsBestBelow n found = MatchOption found (NoneBelow n) (λ (t : TaskNo). IsBestOfBelow n t.0)

  -- a Live task of the highest current priority of those below the number, the first of these, and alone where no tie is told
  pub record IsHighestOfBelow (n : ℕ) (h : Highest) : Type 0 where
    pub live : is_live (task_state s h.task.0) ≡ true
    pub has : current_priority app s h.task.0 ≡ h.priority
    pub first : (u : ℕ) → u < h.task.0 → is_live (task_state s u) ≡ true → current_priority app s u < h.priority
    pub highest : (u : ℕ) → u < n → is_live (task_state s u) ≡ true → current_priority app s u ≤ h.priority
    pub alone : h.ties ≡ false → (u : ℕ) → u < n → is_live (task_state s u) ≡ true → u ≢ h.task.0 → current_priority app s u < h.priority

  abbrev pub IsHighestBelow : ℕ → Option Highest → Type 0
  IsHighestBelow n found = MatchOption found (NoneBelow n) (IsHighestOfBelow n)
