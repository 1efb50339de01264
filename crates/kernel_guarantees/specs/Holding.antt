-- By what the stacks of resources change (ISO 17356-3, resource management): what is taken last is released first.
use Rattle.std.specs.{Prelude.{◌≡◌, ⊤, Bool, true, false, List, [], ◌∷◌, ◌++◌, Some}, declared.option.Option.{Option}}
use Rattle.osek_values.specs.declared.{numbers.ResNo.{ResNo}, status.Status.{Status}}
use Rattle.osek_values.specs.declared.status.Status.TheVariants as status
use Rattle.osek_standard.specs.{declared.{block.Kind.{Kind}, state.{State.{State}, Caller.{Caller}}}, States.{caller}}
use Rattle.osek_standard.specs.declared.call.{Call.TheVariants.{Plain, Task, Resource, Mask, ShutdownOs}, PlainService.TheVariants.{Schedule, TerminateTask}}
use Rattle.osek_standard.specs.declared.call.{TaskService.TheVariants.{ChainTask}, ResourceService.TheVariants.{GetResource, ReleaseResource}, MaskService.TheVariants.{ClearEvent, WaitEvent}}
use Rattle.osek_standard.specs.declared.block.Kind.TheVariants as kind
use Rattle.osek_standard.specs.declared.state.Caller.TheVariants as caller_is
use Rattle.kernel_guarantees.specs.Resources.{Holder, OfRoutine, OfTask}

-- the task or the routine that calls
abbrev pub IsCalledBy : Caller → Holder → Type 0
IsCalledBy caller_is.Nobody x = ⊥
IsCalledBy (caller_is.Task c) x = x ≡ OfTask c.0
IsCalledBy (caller_is.Routine k) x = x ≡ OfRoutine k.0

-- it has the processor, so that the next instruction is its own
abbrev pub IsCaller : State → Holder → Type 0
IsCaller s x = IsCalledBy (caller s.processor) x

-- ShutdownOS ends each routine, and no task
abbrev pub EndsAtShutdown : Holder → Type 0
EndsAtShutdown (OfTask t) = ⊥
EndsAtShutdown (OfRoutine k) = ⊤

-- What an instruction of this kind and this status makes of the stack of x, where it changes it: x's own GetResource puts the
-- resource on top, its own ReleaseResource takes it from there, and where x ends it holds nothing.
abbrev pub StackBecomes : Caller → Holder → Kind → Option Status → List ResNo → List ResNo → Type 0
StackBecomes c x (kind.Call (Resource GetResource r)) e before now = IsCalledBy c x × (e ≡ Some status.Ok) × (now ≡ before ++ r ∷ [])
StackBecomes c x (kind.Call (Resource ReleaseResource r)) e before now = IsCalledBy c x × (e ≡ Some status.Ok) × (before ≡ now ++ r ∷ [])
StackBecomes c x kind.TaskEnd e before now = IsCalledBy c x × (now ≡ [])
StackBecomes c x kind.IsrEnd e before now = IsCalledBy c x × (now ≡ [])
StackBecomes c x (kind.Call ShutdownOs) e before now = EndsAtShutdown x × (now ≡ [])
StackBecomes c x _ e before now = ⊥

-- the services that a task may not call while it holds a resource
abbrev pub needs_none_held : Kind → Bool
needs_none_held (kind.Call (Plain TerminateTask)) = true
needs_none_held (kind.Call (Plain Schedule)) = true
needs_none_held (kind.Call (Task ChainTask t)) = true
needs_none_held (kind.Call (Mask WaitEvent m)) = true
needs_none_held _ = false

-- the services that a task alone may call
abbrev pub is_for_tasks : Kind → Bool
is_for_tasks (kind.Call (Plain TerminateTask)) = true
is_for_tasks (kind.Call (Plain Schedule)) = true
is_for_tasks (kind.Call (Task ChainTask t)) = true
is_for_tasks (kind.Call (Mask ClearEvent m)) = true
is_for_tasks (kind.Call (Mask WaitEvent m)) = true
is_for_tasks _ = false
