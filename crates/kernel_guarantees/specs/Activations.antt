-- The activations of a task and its ends (ISO 17356-3, activating a task and terminating a task).
use Rattle.std.specs.{Prelude.{ℕ, ◌+◌, Bool, true, ◌==◌, ◌&&◌, not, is_some, is_none, if◌then◌else◌, List, [], ◌∷◌}, declared.option.Option.{Option}}
use Rattle.osek_values.specs.{Bits.{has_bit}, declared.{event.Event.{Event}, numbers.ModeNo.{ModeNo}, status.Status.{Status}}}
use Rattle.osek_standard.specs.declared.{app.App.{App}, block.Kind.{Kind}, state.{State.{State}, Caller.{Caller}}, task_state.Activity.{Activity, TheVariants.{Suspended, Live, Waiting}}}
use Rattle.osek_standard.specs.declared.call.{Call.TheVariants.{Plain, Task}, PlainService.TheVariants.{TerminateTask}, TaskService.TheVariants.{ChainTask}}
use Rattle.osek_standard.specs.declared.block.Kind.TheVariants as kind
use Rattle.osek_standard.specs.declared.state.Caller.TheVariants as caller_is
use Rattle.osek_standard.specs.{Apps.{the_task}, States.{caller, task_state}, Effects.{is_error}, Kernel.{step}, Outcomes.{Mark, Silent, Arrived, Did, shows}}
use Rattle.kernel_guarantees.specs.{Instructions.{is_end, may_activate}, Scheduling.{kind_at}}

-- those of a task that haven't ended: one that is running, ready or waiting, and those that wait for its end
abbrev pub alive_in : Activity → ℕ
alive_in Suspended = 0
alive_in (Live x) = x.further + 1
alive_in (Waiting b) = 1

abbrev pub alive : State → ℕ → ℕ
alive s t = alive_in (task_state s t).activity

-- An instruction with this status was accepted. TerminateTask and ChainTask answer only where they are refused, and the end
-- of a task's code is no call; others answer E_OK.
abbrev pub is_accepted : Kind → Option Status → Bool
is_accepted (kind.Call (Plain TerminateTask)) x = is_none x
is_accepted (kind.Call (Task ChainTask t)) x = is_none x
is_accepted kind.TaskEnd x = true
is_accepted _ x = is_some x && not (is_error x)

abbrev pub one_if : Bool → ℕ
one_if b = if b then 1 else 0

-- what an instruction adds to the activations of t: ActivateTask, ChainTask, or an alarm that expires
abbrev pub activations_by : App → Kind → ℕ → Option Status → ℕ
activations_by app k t x = one_if (is_accepted k x && may_activate app k t)

-- and to its ends: TerminateTask, ChainTask or the end of its code, of t itself
abbrev pub ends_by : Caller → Kind → ℕ → Option Status → ℕ
ends_by caller_is.Nobody k t x = 0
ends_by (caller_is.Routine r) k t x = 0
ends_by (caller_is.Task c) k t x = one_if (is_end k && (is_accepted k x && (c.0 == t)))

-- by what a step shows: where it does an instruction, this of its status
abbrev pub of_instruction : (Option Status → ℕ) → Mark → ℕ
of_instruction f Silent = 0
of_instruction f Arrived = 0
of_instruction f (Did does x) = f x

abbrev pub activations_in : App → State → Event → ℕ → ℕ
activations_in app s e t = of_instruction (activations_by app (kind_at app s) t) (shows app s e)

abbrev pub ends_in : App → State → Event → ℕ → ℕ
ends_in app s e t = of_instruction (ends_by (caller s.processor) (kind_at app s) t) (shows app s e)

-- along events, from a state on
abbrev pub activations_along : App → State → List Event → ℕ → ℕ
activations_along app s [] t = 0
activations_along app s (e ∷ es) t = activations_in app s e t + activations_along app (step app s e).state es t

abbrev pub ends_along : App → State → List Event → ℕ → ℕ
ends_along app s [] t = 0
ends_along app s (e ∷ es) t = ends_in app s e t + ends_along app (step app s e).state es t

-- at the start
abbrev pub autostarts : App → ModeNo → ℕ → ℕ
autostarts app mode t = one_if (has_bit (the_task app t).autostart mode.0)
