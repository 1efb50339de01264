-- The rules on a system and its task code (this project's profile): on which lines each is violated.
use Rattle.std.specs.Prelude.{ℕ, Bool, true, false, not, ◌||◌, ◌&&◌, if◌then◌else◌, is_some, List, [], ◌∷◌, ◌++◌, Option, Some, None, filter, map, drop, slice_index_or}
use Rattle.std.specs.{List.{list_any, flat_map}, Str.{bytes_eq}}
use Rattle.osek_values.specs.declared.{limits.TheConstants.{MAX_SOURCE_BLOCKS}, refusal.CodeRule.{CodeRule, TheVariants.{C1, C2, C3, C4, C6, C7, C8, C9, C10}}}
use Rattle.oil_system.specs.declared.system.{TaskObject.{TaskObject}, IsrObject.{IsrObject}, System.{System}}
use Rattle.osek_standard.specs.Validity.{is_internal}
use Rattle.oil_model.specs.Rules.{repeated}
use Rattle.task_code.specs.declared.call.{Reference.{Reference}, Call.{Call}}
use Rattle.task_code.specs.declared.call.Call.TheVariants as call
use Rattle.task_code.specs.declared.tree.{BodyKind.{BodyKind, TheVariants.{Task, Isr}}, Body.{Body}, Code.{Code}}
use Rattle.task_code.specs.Statements.{Statements, closed, work_then, if_then, if_else_then, while_then, call_then, closing_line}
use Rattle.block_graph.specs.{Names.{task_of, isr_of, alarm_of, resource_of, event_of}, Locks.{unpaired}}

abbrev pub is_kind : BodyKind → BodyKind → Bool
is_kind Task Task = true
is_kind Isr Isr = true
is_kind _ _ = false

-- the code of the task or of the ISR of this name
abbrev pub is_code_of : BodyKind → List ℕ → Body → Bool
is_code_of kind name body = is_kind kind body.kind && bytes_eq name body.owner.name

abbrev pub line_of_body : Body → ℕ
line_of_body body = body.line

-- C1: a declared task or category 2 ISR has no code; on line 0
abbrev pub lacks_code : BodyKind → List Body → List ℕ → Bool
lacks_code kind bodies name = not (list_any (is_code_of kind name) bodies)

abbrev pub missing_code : System → List Body → List ℕ
missing_code s bodies =
    if list_any (λ (x : TaskObject). lacks_code Task bodies x.name) s.tasks || list_any (λ (x : IsrObject). lacks_code Isr bodies x.name) s.isrs then 0 ∷ [] else []

-- C2: code for nothing declared, or for a category 1 ISR
abbrev pub has_owner : System → BodyKind → List ℕ → Bool
has_owner s Task name = is_some (task_of s name)
has_owner s Isr name = is_some (isr_of s name)

abbrev pub is_stray : System → Body → Bool
is_stray s body = not (has_owner s body.kind body.owner.name)

abbrev pub stray_code : System → List Body → List ℕ
stray_code s bodies = map line_of_body (filter (is_stray s) bodies)

-- C3: a body of which an earlier one has the same owner
abbrev pub has_same_owner : Body → Body → Bool
has_same_owner body earlier = is_code_of body.kind body.owner.name earlier

abbrev pub repeated_code : List Body → List ℕ
repeated_code bodies = map line_of_body (repeated has_same_owner [] bodies)

-- what the calls of statements bring, each by its line, in the order of the text
abbrev pub from_calls : (ℕ → Call → List ℕ) → Statements → List ℕ
from_calls lines (closed line) = []
from_calls lines (work_then line count next) = from_calls lines next
from_calls lines (if_then line branch next) = from_calls lines branch ++ from_calls lines next
from_calls lines (if_else_then line branch otherwise next) = from_calls lines branch ++ (from_calls lines otherwise ++ from_calls lines next)
from_calls lines (while_then line condition body next) = from_calls lines body ++ from_calls lines next
from_calls lines (call_then line call next) = lines line call ++ from_calls lines next

-- C4: a name in a call isn't declared as the needed kind
abbrev pub undeclared : Option ℕ → ℕ → List ℕ
undeclared None line = line ∷ []
undeclared (Some number) line = []

module _ (s : System) where
  abbrev pub no_task : Reference → List ℕ
  no_task r = undeclared (task_of s r.name) r.line

  abbrev pub no_alarm : Reference → List ℕ
  no_alarm r = undeclared (alarm_of s r.name) r.line

  abbrev pub no_resource : Reference → List ℕ
  no_resource r = undeclared (resource_of s r.name) r.line

  abbrev pub no_event : Reference → List ℕ
  no_event r = undeclared (event_of s r.name) r.line

  abbrev pub undeclared_in : ℕ → Call → List ℕ
  undeclared_in line (call.ActivateTask task) = no_task task
  undeclared_in line call.TerminateTask = []
  undeclared_in line (call.ChainTask task) = no_task task
  undeclared_in line call.Schedule = []
  undeclared_in line (call.GetResource resource) = no_resource resource
  undeclared_in line (call.ReleaseResource resource) = no_resource resource
  undeclared_in line (call.SetEvent task events) = no_task task ++ flat_map no_event events
  undeclared_in line (call.ClearEvent events) = flat_map no_event events
  undeclared_in line (call.GetEvent task) = no_task task
  undeclared_in line (call.WaitEvent events) = flat_map no_event events
  undeclared_in line (call.SetRelAlarm alarm increment cycle) = no_alarm alarm
  undeclared_in line (call.SetAbsAlarm alarm start cycle) = no_alarm alarm
  undeclared_in line (call.CancelAlarm alarm) = no_alarm alarm
  undeclared_in line (call.GetAlarm alarm) = no_alarm alarm
  undeclared_in line call.GetTaskId = []
  undeclared_in line (call.GetTaskState task) = no_task task
  undeclared_in line call.GetActiveApplicationMode = []
  undeclared_in line (call.ShutdownOs _) = []
  undeclared_in line (call.LockCall lock) = []

  abbrev pub undeclared_names : List Body → List ℕ
  undeclared_names bodies = flat_map (λ (body : Body). from_calls undeclared_in body.statements) bodies

-- C6: GetResource or ReleaseResource in an ISR of a resource that the ISR doesn't name

-- past the end of the table stands an ISR that names nothing
abbrev pub no_isr_object : IsrObject
no_isr_object = record { name = []; priority = 0; resources = [] }

abbrev pub is_unnamed : List (List ℕ) → Call → Bool
is_unnamed named (call.GetResource resource) = not (list_any (bytes_eq resource.name) named)
is_unnamed named (call.ReleaseResource resource) = not (list_any (bytes_eq resource.name) named)
is_unnamed named _ = false

abbrev pub unnamed_in : List (List ℕ) → ℕ → Call → List ℕ
unnamed_in named line call = if is_unnamed named call then line ∷ [] else []

module _ (s : System) where
  -- the names of the resources that the ISR of a number names
  abbrev pub resources_of_isr : ℕ → List (List ℕ)
  resources_of_isr number = (slice_index_or s.isrs number no_isr_object).resources

  abbrev pub unnamed_resources : Option ℕ → Statements → List ℕ
  unnamed_resources None statements = []
  unnamed_resources (Some number) statements = from_calls (unnamed_in (resources_of_isr number)) statements

  abbrev pub isr_resources_by : BodyKind → List ℕ → Statements → List ℕ
  isr_resources_by Task name statements = []
  isr_resources_by Isr name statements = unnamed_resources (isr_of s name) statements

  abbrev pub isr_resources : List Body → List ℕ
  isr_resources bodies = flat_map (λ (body : Body). isr_resources_by body.kind body.owner.name body.statements) bodies

-- C7: interrupt locks don't pair
abbrev pub unpaired_locks : List Body → List ℕ
unpaired_locks bodies = flat_map unpaired bodies

-- C8: the first block that is one too many
abbrev pub statement_lines : Statements → List ℕ
statement_lines (closed line) = []
statement_lines (work_then line count next) = line ∷ statement_lines next
statement_lines (if_then line branch next) = line ∷ (statement_lines branch ++ statement_lines next)
statement_lines (if_else_then line branch otherwise next) = line ∷ (statement_lines branch ++ (statement_lines otherwise ++ statement_lines next))
statement_lines (while_then line condition body next) = line ∷ (statement_lines body ++ statement_lines next)
statement_lines (call_then line call next) = line ∷ statement_lines next

-- a body's statements and its closing brace are blocks
abbrev pub block_lines : List Body → List ℕ
block_lines bodies = flat_map (λ (body : Body). statement_lines body.statements ++ closing_line body.statements ∷ []) bodies

abbrev pub first_only : List ℕ → List ℕ
first_only [] = []
first_only (line ∷ others) = line ∷ []

abbrev pub beyond_limit : List Body → List ℕ
beyond_limit bodies = first_only (drop MAX_SOURCE_BLOCKS (block_lines bodies))

-- C10: GetResource or ReleaseResource of an INTERNAL resource; on the line of its name
module _ (s : System) where
  abbrev pub internal_at : Option ℕ → ℕ → List ℕ
  internal_at None line = []
  internal_at (Some number) line = if is_internal s.resources number then line ∷ [] else []

  abbrev pub internal_resource : Reference → List ℕ
  internal_resource r = internal_at (resource_of s r.name) r.line

  abbrev pub internal_in : ℕ → Call → List ℕ
  internal_in line (call.GetResource resource) = internal_resource resource
  internal_in line (call.ReleaseResource resource) = internal_resource resource
  internal_in line _ = []

  abbrev pub internal_resources : List Body → List ℕ
  internal_resources bodies = flat_map (λ (body : Body). from_calls internal_in body.statements) bodies

-- The lines on which a rule is violated. C9 is the reader's.
abbrev pub lines : CodeRule → System → Code → List ℕ
lines C1 s code = missing_code s code.bodies
lines C2 s code = stray_code s code.bodies
lines C3 s code = repeated_code code.bodies
lines C4 s code = undeclared_names s code.bodies
lines C6 s code = isr_resources s code.bodies
lines C7 s code = unpaired_locks code.bodies
lines C8 s code = beyond_limit code.bodies
lines C9 s code = []
lines C10 s code = internal_resources s code.bodies
