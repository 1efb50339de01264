-- Which hooks run in a step (ISO 17356-3, hook routines).
use Rattle.std.specs.Prelude.{◌≡◌, ◌⊎◌, ⊤, ℕ, Bool, true, false, List, [], ◌∷◌, if◌then◌else◌}
use Rattle.osek_values.specs.{declared.notes.Notes.{Notes}, Hooks.{error, post_task, pre_task, shutdown, startup}}
use Rattle.osek_standard.specs.declared.{app.App.{App}, state.Processor.{Processor}}
use Rattle.osek_standard.specs.Services.{share}
use Rattle.osek_standard.specs.declared.state.Processor.TheVariants as processor

pub data Hook : Type 0 where
  StartupHook : Hook
  ShutdownHook : Hook
  ErrorHook : Hook
  PreTaskHook : Hook
  PostTaskHook : Hook

abbrev pub hook_bit : Hook → ℕ
hook_bit StartupHook = startup
hook_bit ShutdownHook = shutdown
hook_bit ErrorHook = error
hook_bit PreTaskHook = pre_task
hook_bit PostTaskHook = post_task

-- a set of hooks has it
abbrev pub is_in_set : Hook → ℕ → Bool
is_in_set h hooks = share hooks (hook_bit h)

-- the OS object sets it TRUE
abbrev pub is_set_true : App → Hook → Bool
is_set_true app h = is_in_set h app.hooks.0

abbrev pub HasTaskHooks : App → Type 0
HasTaskHooks app = (is_set_true app PreTaskHook ≡ true) × (is_set_true app PostTaskHook ≡ true)

-- it runs in a step that notes this
abbrev pub runs : Hook → Notes → Bool
runs h n = is_in_set h n.hooks.0

abbrev pub is_halted : Processor → Bool
is_halted processor.Halted = true
is_halted processor.Idle = false
is_halted (processor.Running t) = false
is_halted (processor.Interrupted k over) = false

-- Whether a task is within its hooks, after its PreTaskHook and before its PostTaskHook: after a step, where one was so before or not.
-- Where both run in one step, PostTaskHook is first.
abbrev pub is_within_after : Bool → Notes → Bool
is_within_after within n = if runs PreTaskHook n then true else if runs PostTaskHook n then false else within

-- PostTaskHook runs where a task is within its hooks, and PreTaskHook where none is
abbrev pub Alternate : Bool → List Notes → Type 0
Alternate within [] = ⊤
Alternate within (n ∷ ns) =
    (runs PostTaskHook n ≡ true → within ≡ true) × (runs PreTaskHook n ≡ true → (within ≡ false) ⊎ (runs PostTaskHook n ≡ true)) × Alternate (is_within_after within n) ns
