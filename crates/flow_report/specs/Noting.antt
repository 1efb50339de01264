-- Which hooks the starts and the steps of a table note.
use Rattle.std.specs.{Prelude.{ℕ, ◌<◌, Bool, true, false, bit_or, List, IsTrue, is_some, Contains}}
use Rattle.osek_values.specs.declared.{event.Event.{Event}, hooks.HookSet.{HookSet}, numbers.ModeNo.{ModeNo}}
use Rattle.osek_values.specs.Hooks.{shutdown, error, pre_task, post_task, when}
use Rattle.osek_standard.specs.declared.{app.App.{App}, block.Kind.{Kind}, point.Point.{Point}, state.State.{State}}
use Rattle.osek_standard.specs.declared.block.Kind.TheVariants as kind
use Rattle.osek_standard.specs.declared.point.Point.TheVariants as point
use Rattle.image_model.specs.CallNames as call
use Rattle.osek_standard.specs.{Apps.{the_block}, Effects.{is_error, wanted}, Dispatch.{Outcome, Keep, To}, Kernel.{start, step}, Outcomes.{Mark, Silent, Arrived, Did}, TraceText.{has_hook}}
use Rattle.abstract_state.specs.{declared.table.TableRow.{TableRow}, Tables.{Sets, In}}
use Rattle.flow_model.specs.{Effects.{IsAt}, Rules.{mark_by}}
use Rattle.table_rows.specs.declared.bare.BareExit.{BareExit}
use Rattle.flow_report.specs.Findings.{IsHook}

-- ---- the hooks of a step, by where it begins and what it shows

abbrev pub is_shutdown : Kind → Bool
is_shutdown (kind.Call call.ShutdownOs) = true
is_shutdown _ = false

-- a dispatch takes the processor from a task: not where a routine interrupted none
abbrev pub over_some : Point → Bool
over_some point.Halted = false
over_some point.Idle = false
over_some (point.Task b) = true
over_some (point.Routine b over) = is_some over

abbrev pub dispatch_hooks_at : Point → Outcome → ℕ
dispatch_hooks_at p Keep = 0
dispatch_hooks_at p (To x) = bit_or (when (over_some p) post_task) (when (is_some x) pre_task)

module _ (app : App) where
  -- the instruction at the point is ShutdownOS
  abbrev pub shuts_down : Point → Bool
  shuts_down point.Halted = false
  shuts_down point.Idle = false
  shuts_down (point.Task b) = is_shutdown (the_block app b.0).kind
  shuts_down (point.Routine b over) = is_shutdown (the_block app b.0).kind

  -- The hooks that are due at a step. The begin of a routine has none.
  abbrev pub due_hooks : Point → Mark → ℕ
  due_hooks p Silent = 0
  due_hooks p Arrived = 0
  due_hooks p (Did o status) = bit_or (bit_or (when (is_error status) error) (when (shuts_down p) shutdown)) (dispatch_hooks_at p o)

  -- what an exit of a point notes
  abbrev pub exit_hooks : Point → BareExit → HookSet
  exit_hooks p x = wanted app (due_hooks p (mark_by x.decision x.status))

  pub record NotesByExit (p : Point) (exits : List BareExit) (h : ℕ) : Type 0 where
    pub exit : BareExit
    pub among : Contains exits exit
    pub notes : IsTrue (has_hook (exit_hooks p exit) h)

-- ---- what notes a hook

module _ (app : App) (h : ℕ) where
  pub record NotesAtStart (modes : ℕ) : Type 0 where
    pub mode : ModeNo
    pub known : mode.0 < modes
    pub notes : IsTrue (has_hook (start app mode).notes.hooks h)

  pub record NotesInRow (row : TableRow) : Type 0 where
    pub from : State
    pub event : Event
    pub at : IsAt app row.point row.entry from
    pub notes : IsTrue (has_hook (step app from event).notes.hooks h)

  pub record NotesInRows (rows : List TableRow) : Type 0 where
    pub row : TableRow
    pub among : Contains rows row
    pub notes : NotesInRow row

  pub record NotesInTable (table : Sets) : Type 0 where
    pub from : State
    pub event : Event
    pub inside : In app table from
    pub notes : IsTrue (has_hook (step app from event).notes.hooks h)

-- The set has just those hooks of which P holds.
abbrev pub AreHooks : (ℕ → Type 0) → HookSet → Type 0
AreHooks P x = (h : ℕ) → IsHook h → (IsTrue (has_hook x h) → P h) × (P h → IsTrue (has_hook x h))
