-- Sites at which it is known before an instruction is done that no trap comes of it.
use Rattle.std.specs.Prelude.{Bool, true, false, None, Some, if◌then◌else◌, ◌&&◌}
use Rattle.std.specs.declared.option.Option.{Option}
use Rattle.osek_values.specs.declared.status.Status.{Status, TheVariants.{Ok, CallLevel, Limit, Resource}}
use Rattle.osek_standard.specs.declared.{app.App.{App}, block.Kind.{Kind}, state.{State.{State}, Caller.{Caller, TheVariants.{Nobody, Task, Routine}}}}
use Rattle.osek_standard.specs.{States.{caller}, Services.{holds_some, is_full}}
use Rattle.image_model.specs.{declared.site.{Form.{Form}, Known.{Known}, Site.{Site}}, Statuses.{allows_status}}
use Rattle.image_model.specs.CallNames as call
use Rattle.image_model.specs.declared.site.Form.TheVariants as form
use Rattle.image_model.specs.declared.site.Known.TheVariants as known
use Rattle.osek_standard.specs.declared.block.Kind.TheVariants as kind

-- after an instruction of this kind the caller, or what a routine interrupted, hasn't left
abbrev pub keeps_caller : Kind → Bool
keeps_caller (kind.Call (call.Task call.ActivateTask t)) = true
keeps_caller (kind.Call (call.Plain call.Schedule)) = true
keeps_caller (kind.Call (call.Resource call.ReleaseResource r)) = true
keeps_caller (kind.Call (call.SetEvent t m)) = true
keeps_caller kind.IsrEnd = true
keeps_caller _ = false

-- Stay traps where the caller left, and General never does
abbrev pub takes_all : Form → Kind → Bool
takes_all form.Never k = false
takes_all form.Stay k = keeps_caller k
takes_all (form.Direct o) k = false
takes_all form.General k = true

abbrev pub allows_all : Known → Bool
allows_all known.Any = true
allows_all (known.Always x) = false

-- what TerminateTask of a caller notes: nothing where the task ends
abbrev pub termination_status : State → Caller → Option Status
termination_status s Nobody = None
termination_status s (Routine k) = Some CallLevel
termination_status s (Task t) = if holds_some s t.0 then Some Resource else None

-- an activation notes E_OS_LIMIT where its task is full, and the closing brace of a task notes nothing
abbrev pub foresees : App → State → Known → Kind → Bool
foresees app s x (kind.Call (call.Task call.ActivateTask t)) = allows_status x (Some (if is_full app s t.0 then Limit else Ok))
foresees app s x (kind.Call (call.Plain call.TerminateTask)) = allows_status x (termination_status s (caller s.processor))
foresees app s x kind.TaskEnd = allows_status x None
foresees app s x k = allows_all x

abbrev pub is_trapless : App → State → Site → Kind → Bool
is_trapless app s x k = foresees app s x.known k && takes_all x.form k
