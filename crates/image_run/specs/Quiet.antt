-- Steps after which a line of the trace shows of the tasks, or of all but few, what the line before showed.
use Rattle.std.specs.{Prelude.{◌≡◌, ⊤, Bool, true, false, not, ℕ, None, is_some}, declared.option.Option.{Option}}
use Rattle.osek_values.specs.declared.{event.Event.{Event, TheVariants.{Run, Irq, Tick}}, numbers.TaskNo.{TaskNo}}
use Rattle.osek_standard.specs.declared.{app.App.{App}, block.Kind.{Kind}, state.{State.{State}, Processor.{Processor}}}
use Rattle.osek_standard.specs.{Apps.{the_block}, TaskStates.{is_inside}, States.{alarm_state, here, is_that_task, nowhere, task_of, task_state}, Internal.{internal_of}, Effects.{task_at}, Services.{due, is_due_at, value_of}}
use Rattle.image_model.specs.{declared.image.Image.{Image}, ImageStep.{site_at}}
use Rattle.image_model.specs.CallNames as call
use Rattle.osek_standard.specs.declared.block.Kind.TheVariants as kind
use Rattle.osek_standard.specs.declared.state.Processor.TheVariants as processor

-- the same task runs or is interrupted, and each task is as it was but for its place
pub record KeepsTasks (s r : State) : Type 0 where
  pub current : task_of r.processor ≡ task_of s.processor
  pub tasks : (t : ℕ) → task_at (task_state r t) nowhere ≡ task_at (task_state s t) nowhere

-- each task is as it was, but for the one that ran or was interrupted, this one, and the one that runs or is interrupted now
abbrev pub ChangesFew : Option TaskNo → State → State → Type 0
ChangesFew x s r =
    (t : ℕ) → is_that_task (task_of s.processor) t ≡ false → is_that_task x t ≡ false → is_that_task (task_of r.processor) t ≡ false → task_state r t ≡ task_state s t

-- at a block of this kind an instruction leaves each task as it is but for its place, and asks for no rescheduling: an
-- alarm that isn't due does nothing
abbrev pub leaves_tasks : App → State → Kind → Bool
leaves_tasks app s (kind.Work n) = true
leaves_tasks app s (kind.Choice other) = true
leaves_tasks app s kind.Loop = true
leaves_tasks app s kind.CountUp = true
leaves_tasks app s (kind.Call (call.Lock l)) = true
leaves_tasks app s (kind.Call (call.Plain call.GetTaskId)) = true
leaves_tasks app s (kind.Call (call.Plain call.GetActiveApplicationMode)) = true
leaves_tasks app s (kind.Call (call.Task call.GetEvent t)) = true
leaves_tasks app s (kind.Call (call.Task call.GetTaskState t)) = true
leaves_tasks app s (kind.Call (call.Alarm v a)) = true
leaves_tasks app s (kind.Call (call.Arm v a i y)) = true
leaves_tasks app s (kind.Expire a) = not (is_due_at (due (alarm_state s a.0)) (value_of app s a.0))
leaves_tasks app s _ = false

-- the task that runs is inside where it names an INTERNAL resource, and at no other time
abbrev pub IsSettled : App → State → Processor → Type 0
IsSettled app s processor.Halted = ⊤
IsSettled app s processor.Idle = ⊤
IsSettled app s (processor.Running t) = is_inside (task_state s t.0) ≡ is_some (internal_of app t.0)
IsSettled app s (processor.Interrupted k over) = ⊤

module _ (i : Image) (s : State) where
  -- the instruction that is due, if one is, leaves the tasks, at a block that is no site
  pub record IsQuietHere : Type 0 where
    pub leaves : leaves_tasks i.app s (the_block i.app (here s).block.0).kind ≡ true
    pub no_site : site_at i (here s).block.0 ≡ None
    pub settled : IsSettled i.app s s.processor

  abbrev pub IsQuietAt : Processor → Type 0
  IsQuietAt processor.Halted = ⊤
  IsQuietAt processor.Idle = ⊤
  IsQuietAt (processor.Running t) = IsQuietHere
  IsQuietAt (processor.Interrupted k over) = IsQuietHere

  -- and a source that latches changes no task
  abbrev pub IsQuiet : Event → Type 0
  IsQuiet (Run choice) = IsQuietAt s.processor
  IsQuiet (Irq k) = ⊤
  IsQuiet (Tick c) = ⊤
