-- What a step does with the processor after the effect of its instruction (ISO 17356-3, scheduling policy), and the
-- hooks of a dispatch (ISO 17356-3, PreTaskHook and PostTaskHook).
use Rattle.std.specs.{Prelude.{ℕ, Bool, true, false, nat_lt, ◌||◌, bit_or, if◌then◌else◌, Some, None, is_some}, declared.option.Option.{Option}}
use Rattle.osek_values.specs.{declared.{hooks.HookSet.{HookSet}, status.Ask.{Ask}, notes.Notes.{Notes}, numbers.TaskNo.{TaskNo}}, Hooks.{hook_set, pre_task, post_task, when}}
use Rattle.osek_values.specs.declared.status.Ask.TheVariants as ask
use Rattle.osek_standard.specs.declared.{app.App.{App}, state.{State.{State}, Processor.{Processor}, Caller.{Caller, TheVariants.{Nobody, Task, Routine}}}}
use Rattle.osek_standard.specs.{States.{task_of, caller, with_processor}, Priority.{current_priority, best}, Effects.{Effect, effect, wanted}, Line.{first_in_line, out_of_line}}
use Rattle.osek_standard.specs.Internal.{put_inside, kept}
use Rattle.osek_standard.specs.declared.state.Processor.TheVariants as processor

-- who had the processor keeps it, or it goes to a task or to none
pub data Outcome : Type 0 where
  Keep : Outcome
  To : (task : Option TaskNo) → Outcome

abbrev pub if_any : Option TaskNo → Outcome
if_any None = Keep
if_any (Some t) = To (Some t)

-- a task is dispatched where it is strictly above the caller
abbrev pub if_above : App → State → TaskNo → Option TaskNo → Outcome
if_above app s c None = Keep
if_above app s c (Some t) = if nat_lt (current_priority app s c.0) (current_priority app s t.0) then To (Some t) else Keep

abbrev pub preempted_by : App → State → Caller → Outcome
preempted_by app s Nobody = Keep
preempted_by app s (Routine k) = Keep
preempted_by app s (Task c) = if_above app s c (best app s)

-- s is the state after the effect
abbrev pub outcome_by : App → State → Ask → Outcome
outcome_by app s ask.No = Keep
outcome_by app s ask.Maybe = preempted_by app s (caller s.processor)
outcome_by app s ask.Left = To (best app s)
outcome_by app s ask.Free = if_any (best app s)

abbrev pub outcome_of : App → Effect → Outcome
outcome_of app e = outcome_by app e.state e.ask

-- The outcome of the instruction at the processor.
abbrev pub outcome : App → State → Bool → Outcome
outcome app s choice = outcome_of app (effect app s choice)

abbrev pub processor_for : Option TaskNo → Processor
processor_for None = processor.Idle
processor_for (Some t) = processor.Running t

-- who had the processor goes first in the line, and who gets it leaves the line and is inside
abbrev pub dispatched : App → State → Option TaskNo → State
dispatched app s x = with_processor (put_inside app (out_of_line (first_in_line s (task_of s.processor)) x) x) (processor_for x)

abbrev pub settled : App → State → Outcome → State
settled app s Keep = kept app s
settled app s (To x) = dispatched app s x

abbrev pub is_left : Ask → Bool
is_left ask.No = false
is_left ask.Maybe = false
is_left ask.Left = true
is_left ask.Free = false

-- PostTask where a task left or has the processor, and PreTask where a task gets it
abbrev pub dispatch_hooks : State → Ask → Option TaskNo → ℕ
dispatch_hooks s a x = bit_or (when (is_left a || is_some (task_of s.processor)) post_task) (when (is_some x) pre_task)

abbrev pub outcome_hooks : State → Ask → Outcome → ℕ
outcome_hooks s a Keep = 0
outcome_hooks s a (To x) = dispatch_hooks s a x

-- the hooks of both
abbrev pub hooks_of : HookSet → HookSet → HookSet
hooks_of h k = hook_set (bit_or h.0 k.0)

-- a state, and what was noted on the way to it
pub record Stepped : Type 0 where
  pub state : State
  pub notes : Notes

abbrev pub stepped : State → Notes → Stepped
stepped s n = record { state = s; notes = n }

abbrev pub nothing_noted : Notes
nothing_noted = record { status = None; value = None; hooks = hook_set 0 }

abbrev pub silent : State → Stepped
silent s = stepped s nothing_noted

abbrev pub with_hooks : Notes → HookSet → Notes
with_hooks n h = record n { hooks = hooks_of n.hooks h }

-- an effect and then an outcome
abbrev pub concluded : App → Effect → Outcome → Stepped
concluded app e x = stepped (settled app e.state x) (with_hooks e.notes (wanted app (outcome_hooks e.state e.ask x)))

-- One instruction, as a whole.
unfoldable pub instruction : App → State → Bool → Stepped
instruction app s choice = let e = effect app s choice in concluded app e (outcome_of app e)
