-- What waiting tasks have of the events that they wait for (ISO 17356-3, event mechanism).
use Rattle.std.specs.Prelude.{◌≡◌, ⊤, ℕ, false}
use Rattle.osek_standard.specs.declared.{app.App.{App}, task_state.Activity.{Activity, TheVariants.{Suspended, Live, Waiting}}, state.State.{State}}
use Rattle.osek_standard.specs.{Apps.{awaited, the_block}, Services.{share}, States.{task_state}}

-- none of these events is one that a waiting task waits for
abbrev pub AwaitsNone : App → ℕ → Activity → Type 0
AwaitsNone app m Suspended = ⊤
AwaitsNone app m (Live x) = ⊤
AwaitsNone app m (Waiting b) = share m (awaited (the_block app b.0).kind) ≡ false

abbrev pub AllAwaitNone : App → State → Type 0
AllAwaitNone app s = (t : ℕ) → AwaitsNone app (task_state s t).events.0 (task_state s t).activity
