-- Which instructions do what, by their kind (ISO 17356-3, task management and event control).
use Rattle.std.specs.Prelude.{ℕ, Bool, true, false, ◌==◌, ◌&&◌}
use Rattle.oil_system.specs.declared.objects.Action.{Action}
use Rattle.oil_system.specs.declared.objects.Action.TheVariants as action
use Rattle.osek_standard.specs.{Apps.{the_alarm}, declared.{app.App.{App}, block.Kind.{Kind}}}
use Rattle.osek_standard.specs.declared.call.{Call.TheVariants.{Plain, Task, Mask, SetEvent}, PlainService.TheVariants.{TerminateTask}, TaskService.TheVariants.{ActivateTask, ChainTask}, MaskService.TheVariants.{ClearEvent, WaitEvent}}
use Rattle.osek_standard.specs.declared.block.Kind.TheVariants as kind

-- by which a task ends: TerminateTask, ChainTask, and the end of its code
abbrev pub is_end : Kind → Bool
is_end (kind.Call (Plain TerminateTask)) = true
is_end (kind.Call (Task ChainTask t)) = true
is_end kind.TaskEnd = true
is_end _ = false

abbrev pub is_wait : Kind → Bool
is_wait (kind.Call (Mask WaitEvent m)) = true
is_wait _ = false

abbrev pub action_activates : Action → ℕ → Bool
action_activates (action.ActivateTask u) t = u.0 == t
action_activates (action.SetEvent u m) t = false

abbrev pub action_sets : Action → ℕ → ℕ → Bool
action_sets (action.ActivateTask u) t m = false
action_sets (action.SetEvent u n) t m = (u.0 == t) && (n.0 == m)

-- by which task t is activated: ActivateTask or ChainTask that names it, and an alarm that expires and activates it
abbrev pub may_activate : App → Kind → ℕ → Bool
may_activate app (kind.Call (Task ActivateTask u)) t = u.0 == t
may_activate app (kind.Call (Task ChainTask u)) t = u.0 == t
may_activate app (kind.Expire a) t = action_activates (the_alarm app a.0).action t
may_activate app _ t = false

-- by which task t is sent the events m: SetEvent, and an alarm that expires and sends them
abbrev pub may_set : App → Kind → ℕ → ℕ → Bool
may_set app (kind.Call (SetEvent u n)) t m = (u.0 == t) && (n.0 == m)
may_set app (kind.Expire a) t m = action_sets (the_alarm app a.0).action t m
may_set app _ t m = false

-- by which the caller clears the events m
abbrev pub may_clear : Kind → ℕ → Bool
may_clear (kind.Call (Mask ClearEvent n)) m = n.0 == m
may_clear _ m = false
