-- By what events are set and cleared (ISO 17356-3, event control).
use Rattle.std.specs.Prelude.{◌≡◌, ℕ, true}
use Rattle.osek_values.specs.Numbers.{mask, task_no}
use Rattle.oil_system.specs.declared.objects.Action.TheVariants as action
use Rattle.osek_standard.specs.{Apps.{the_alarm}, declared.{app.App.{App}, block.Kind.{Kind}, state.State.{State}}, States.{alarm_state}, Services.{due, is_due_at, value_of}}
use Rattle.osek_standard.specs.declared.call.{Call.TheVariants.{Mask, SetEvent, Task}, MaskService.TheVariants.{ClearEvent}, TaskService.TheVariants.{ActivateTask, ChainTask}}
use Rattle.osek_standard.specs.declared.block.Kind.TheVariants as kind
use Rattle.osek_standard.specs.declared.state.Processor.TheVariants as processor
use Rattle.kernel_guarantees.specs.Scheduling.{kind_at}

-- alarm a expires now
abbrev pub IsDue : App → State → ℕ → Type 0
IsDue app s a = is_due_at (due (alarm_state s a)) (value_of app s a) ≡ true

-- an instruction of this kind sets the events m of task t: SetEvent(t, m), or an alarm expires whose action that is
abbrev pub SetsBy : App → State → ℕ → ℕ → Kind → Type 0
SetsBy app s t m (kind.Call (SetEvent u n)) = (u ≡ task_no t) × (n ≡ mask m)
SetsBy app s t m (kind.Expire a) = ((the_alarm app a.0).action ≡ action.SetEvent (task_no t) (mask m)) × IsDue app s a.0
SetsBy app s t m _ = ⊥

-- so does the next instruction
abbrev pub SetsEvents : App → State → ℕ → ℕ → Type 0
SetsEvents app s t m = SetsBy app s t m (kind_at app s)

-- task t runs, and the next instruction is ClearEvent(m)
pub record ClearsEvents (app : App) (s : State) (t m : ℕ) : Type 0 where
  pub runs : s.processor ≡ processor.Running (task_no t)
  pub calls : kind_at app s ≡ kind.Call (Mask ClearEvent (mask m))

-- an instruction of this kind activates task t: ActivateTask(t), ChainTask(t), or an alarm expires whose action that is
abbrev pub ActivatesBy : App → State → ℕ → Kind → Type 0
ActivatesBy app s t (kind.Call (Task ActivateTask u)) = u ≡ task_no t
ActivatesBy app s t (kind.Call (Task ChainTask u)) = u ≡ task_no t
ActivatesBy app s t (kind.Expire a) = ((the_alarm app a.0).action ≡ action.ActivateTask (task_no t)) × IsDue app s a.0
ActivatesBy app s t _ = ⊥

abbrev pub ActivatesTask : App → State → ℕ → Type 0
ActivatesTask app s t = ActivatesBy app s t (kind_at app s)
