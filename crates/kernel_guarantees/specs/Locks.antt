-- Interrupt locks (ISO 17356-3, interrupt processing): where what is interrupted stands.
use Rattle.std.specs.Prelude.{◌≡◌, ℕ, Bool, false, Some}
use Rattle.osek_values.specs.declared.numbers.{SourceNo.{SourceNo}, TaskNo.{TaskNo}}
use Rattle.osek_standard.specs.declared.{app.App.{App}, state.State.{State}, task_state.Place.{Place}}
use Rattle.osek_standard.specs.{Apps.{the_block}, States.{is_source_at, place_in, place_of_source, source_state, task_state}}
use Rattle.osek_standard.specs.declared.state.Processor.TheVariants as processor
use Rattle.kernel_guarantees.specs.Nesting.{IsIn}

-- an interrupt lock is open there
abbrev pub is_locked_at : App → Place → Bool
is_locked_at app p = (the_block app p.block.0).locked

pub record IsInterruptedUnlocked (app : App) (s : State) : Type 0 where
  -- a routine that another one interrupted
  pub routines : (k : ℕ) → IsIn s k → is_source_at s.processor k ≡ false → is_locked_at app (place_of_source (source_state s k)) ≡ false
  -- the task that routines interrupted
  pub task : (k : SourceNo) (t : TaskNo) → s.processor ≡ processor.Interrupted k (Some t) → is_locked_at app (place_in (task_state s t.0).activity) ≡ false
