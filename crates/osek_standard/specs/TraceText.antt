-- Trace text: a line for the start, and one for each event (this project's profile).
use Rattle.std.specs.Prelude.{ℕ, ◌+◌, ◌-◌, Bool, not, ◌==◌, bit_and, List, [], ◌∷◌, ◌++◌, length, slice_index_or, if◌then◌else◌, Some, None, codes, ◌&&◌}
use Rattle.std.specs.{List.{flat_map, enumerate_from}, Fmt.{decimal}, declared.option.Option.{Option}}
use Rattle.osek_values.specs.declared.{status.{Status.{Status}, Letter.{Letter, TheVariants.{S, Y, R, W}}}, notes.{Value.{Value}, Notes.{Notes}}, event.Event.{Event}}
use Rattle.osek_values.specs.declared.{numbers.{ModeNo.{ModeNo}, ResNo.{ResNo}}, hooks.HookSet.{HookSet}}
use Rattle.osek_values.specs.{Hooks.{startup, shutdown, error, pre_task, post_task}, Numbers.{hexadecimal}}
use Rattle.osek_values.specs.declared.status.Status.TheVariants as status
use Rattle.osek_values.specs.declared.notes.Value.TheVariants as value
use Rattle.osek_standard.specs.declared.{app.App.{App}, objects.Task.{Task}, state.{State.{State}, Processor.{Processor}, Source.{Source}}, task_state.TaskState.{TaskState}}
use Rattle.osek_standard.specs.{Apps.{the_task, the_counter, the_isr, the_resource, is_counter}, TaskStates.{is_suspended, further}, States.{task_state, letter_of, is_source_at}}
use Rattle.osek_standard.specs.{Dispatch.{Stepped}, Kernel.{run}, Internal.{occupied}}
use Rattle.osek_standard.specs.declared.state.Processor.TheVariants as processor
use Rattle.osek_standard.specs.declared.state.Source.TheVariants as source

abbrev pub status_name : Status → List ℕ
status_name status.Ok = codes "E_OK"
status_name status.Access = codes "E_OS_ACCESS"
status_name status.CallLevel = codes "E_OS_CALLEVEL"
status_name status.Id = codes "E_OS_ID"
status_name status.Limit = codes "E_OS_LIMIT"
status_name status.NoFunc = codes "E_OS_NOFUNC"
status_name status.Resource = codes "E_OS_RESOURCE"
status_name status.State = codes "E_OS_STATE"
status_name status.Value = codes "E_OS_VALUE"

abbrev pub letter : Letter → List ℕ
letter S = codes "S"
letter Y = codes "Y"
letter R = codes "R"
letter W = codes "W"

abbrev pub task_name : App → ℕ → List ℕ
task_name app t = (the_task app t).name

abbrev pub value_text : App → Value → List ℕ
value_text app (value.Number n) = decimal n
value_text app (value.Mask m) = hexadecimal m.0
value_text app (value.Task None) = codes "-"
value_text app (value.Task (Some t)) = task_name app t.0
value_text app (value.State l) = letter l
value_text app (value.Mode m) = slice_index_or app.modes m.0 []

-- `%` and a counter, or `@` and an ISR
abbrev pub source_text : App → ℕ → List ℕ
source_text app k =
    if is_counter app k then codes "%" ++ (the_counter app k).name
    else codes "@" ++ (the_isr app (k - length app.counters)).name

-- who has the processor: `#` halted, `-` idle
abbrev pub who : App → Processor → List ℕ
who app processor.Halted = codes "#"
who app processor.Idle = codes "-"
who app (processor.Running t) = task_name app t.0
who app (processor.Interrupted k over) = source_text app k.0

-- the further activations of a task
abbrev pub further_text : ℕ → List ℕ
further_text n = if n == 0 then [] else codes "*" ++ decimal n

-- the events of an extended task that isn't suspended
abbrev pub events_text : Task → TaskState → List ℕ
events_text d x =
    if (d.own.0 == 0) then []
    else if is_suspended x then []
    else codes ":" ++ hexadecimal x.events.0

-- a resource that a task or a routine holds
abbrev pub resource_text : App → ResNo → List ℕ
resource_text app r = codes "+" ++ (the_resource app r.0).name

-- a task: its name, its state, its further activations, its events, and the resources that it has
abbrev pub task_text : App → State → ℕ × Task → List ℕ
task_text app s d =
    codes " " ++ d.1.name ++ codes "="
    ++ letter (letter_of s.processor d.0 (task_state s d.0))
    ++ further_text (further (task_state s d.0))
    ++ events_text d.1 (task_state s d.0)
    ++ flat_map (resource_text app) (occupied app d.0 (task_state s d.0))

-- a routine that began and hasn't ended, and the resources that it holds; the one at the processor only where it holds some
abbrev pub routine_text : App → Processor → ℕ × Source → List ℕ
routine_text app p (k, source.Out) = []
routine_text app p (k, source.In x) =
    if is_source_at p k && (length x.held == 0) then []
    else codes " " ++ source_text app k ++ flat_map (resource_text app) x.held

abbrev pub status_text : Option Status → List ℕ
status_text None = []
status_text (Some e) = codes " !" ++ status_name e

abbrev pub value_note : App → Option Value → List ℕ
value_note app None = []
value_note app (Some v) = codes " =" ++ value_text app v

abbrev pub has_hook : HookSet → ℕ → Bool
has_hook hooks hook = not (bit_and hooks.0 hook == 0)

abbrev pub hook_text : HookSet → ℕ → List ℕ → List ℕ
hook_text hooks hook name = if has_hook hooks hook then codes " ^" ++ name else []

abbrev pub notes_text : App → Notes → List ℕ
notes_text app n =
    status_text n.status
    ++ hook_text n.hooks error (codes "Error")
    ++ value_note app n.value
    ++ hook_text n.hooks startup (codes "Startup")
    ++ hook_text n.hooks shutdown (codes "Shutdown")
    ++ hook_text n.hooks post_task (codes "PostTask")
    ++ hook_text n.hooks pre_task (codes "PreTask")

-- line n, without its LF
abbrev pub line_text : App → ℕ → Stepped → List ℕ
line_text app n x =
    decimal n ++ codes " " ++ who app x.state.processor
    ++ flat_map (task_text app x.state) (enumerate_from 0 app.tasks)
    ++ flat_map (routine_text app x.state.processor) (enumerate_from 0 x.state.sources)
    ++ notes_text app x.notes

-- The lines from line n on, each ended by LF.
abbrev pub lines_from : App → ℕ → List Stepped → List ℕ
lines_from app n [] = []
lines_from app n (x ∷ xs) = line_text app n x ++ 10 ∷ lines_from app (n + 1) xs

-- The kernel's trace in a mode under a list of events: line 0 for the start, then a line for each event.
unfoldable pub kernel_trace : App → ModeNo → List Event → List ℕ
kernel_trace app mode es = lines_from app 0 (run app mode es)
