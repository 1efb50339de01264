-- The words of task code (this project's profile): keywords, the services of ISO 17356-3 that code may call, statuses.
use Rattle.std.specs.{Prelude.{ℕ, List, [], ◌∷◌, Bool, if◌then◌else◌, Option, Some, None, codes}, Borrow.{Bor}, Str.{bytes_eq}}
use Rattle.osek_values.specs.declared.status.Status.{Status}
use Rattle.osek_values.specs.declared.status.Status.TheVariants as status
use Rattle.osek_values.specs.declared.lock.Lock.TheVariants.{SuspendAll, ResumeAll, SuspendOs, ResumeOs, DisableAll, EnableAll}
use Rattle.task_code.specs.declared.tree.BodyKind.{BodyKind, TheVariants.{Task, Isr}}
use Rattle.task_code.specs.declared.words.{PlainService.{PlainService, TheVariants.{TerminateTask, Schedule, GetTaskId, GetActiveApplicationMode, Lock}}, ObjectService.{ObjectService, TheVariants.{ActivateTask, ChainTask, GetResource, ReleaseResource, GetEvent, CancelAlarm, GetAlarm, GetTaskState}}, MaskService.TheVariants.{ClearEvent, WaitEvent}, AlarmService.TheVariants.{SetRelAlarm, SetAbsAlarm}, Service.{Service, TheVariants.{Plain, Object, Mask, SetEvent, Alarm, ShutdownOs}}, StatementWord.{StatementWord, TheVariants.{Work, If, While, Service as a_service}}}

-- what a name stands for in a table of words, if it is one of them
abbrev pub found_in : {A : Type 0} → List (List ℕ × A) → List ℕ → Option A
found_in [] n = None
found_in ((word, meaning) ∷ more) n = if bytes_eq n word then Some meaning else found_in more n

-- an entry of such a table, whose word is borrowed
abbrev pub entry : {A : Type 0} → Bor (List ℕ) × A → List ℕ × A
entry e = (e.0.now, e.1)

-- a meaning, or where there is none another
abbrev pub or_else : {A B : Type 0} → (A → B) → Option A → Option B → Option B
or_else f None other = other
or_else f (Some meaning) other = Some (f meaning)

unfoldable pub body_kind : List ℕ → Option BodyKind
body_kind n = found_in ((codes "TASK", Task) ∷ (codes "ISR", Isr) ∷ []) n

unfoldable pub is_else : List ℕ → Bool
is_else n = bytes_eq n (codes "else")

-- the status names
unfoldable pub status_of : List ℕ → Option Status
status_of n =
    found_in ((codes "E_OK", status.Ok) ∷ (codes "E_OS_ACCESS", status.Access) ∷ (codes "E_OS_CALLEVEL", status.CallLevel)
    ∷ (codes "E_OS_ID", status.Id) ∷ (codes "E_OS_LIMIT", status.Limit) ∷ (codes "E_OS_NOFUNC", status.NoFunc)
    ∷ (codes "E_OS_RESOURCE", status.Resource) ∷ (codes "E_OS_STATE", status.State) ∷ (codes "E_OS_VALUE", status.Value) ∷ []) n

-- services without operands
unfoldable pub plain_service : List ℕ → Option PlainService
plain_service n =
    found_in ((codes "TerminateTask", TerminateTask) ∷ (codes "Schedule", Schedule) ∷ (codes "GetTaskID", GetTaskId)
    ∷ (codes "GetActiveApplicationMode", GetActiveApplicationMode)
    ∷ (codes "SuspendAllInterrupts", Lock SuspendAll) ∷ (codes "ResumeAllInterrupts", Lock ResumeAll)
    ∷ (codes "SuspendOSInterrupts", Lock SuspendOs) ∷ (codes "ResumeOSInterrupts", Lock ResumeOs)
    ∷ (codes "DisableAllInterrupts", Lock DisableAll) ∷ (codes "EnableAllInterrupts", Lock EnableAll) ∷ []) n

-- services of one object
unfoldable pub object_service : List ℕ → Option ObjectService
object_service n =
    found_in ((codes "ActivateTask", ActivateTask) ∷ (codes "ChainTask", ChainTask)
    ∷ (codes "GetResource", GetResource) ∷ (codes "ReleaseResource", ReleaseResource) ∷ (codes "GetEvent", GetEvent)
    ∷ (codes "CancelAlarm", CancelAlarm) ∷ (codes "GetAlarm", GetAlarm) ∷ (codes "GetTaskState", GetTaskState) ∷ []) n

-- all services
unfoldable pub service_of : List ℕ → Option Service
service_of n =
    or_else (λ s. s)
    (found_in ((codes "SetEvent", SetEvent) ∷ (codes "ClearEvent", Mask ClearEvent) ∷ (codes "WaitEvent", Mask WaitEvent)
    ∷ (codes "SetRelAlarm", Alarm SetRelAlarm) ∷ (codes "SetAbsAlarm", Alarm SetAbsAlarm) ∷ (codes "ShutdownOS", ShutdownOs) ∷ []) n)
    (or_else Object (object_service n) (or_else Plain (plain_service n) None))

-- what a statement may begin with
unfoldable pub statement_word : List ℕ → Option StatementWord
statement_word n =
    or_else (λ w. w) (found_in ((codes "work", Work) ∷ (codes "if", If) ∷ (codes "while", While) ∷ []) n) (or_else a_service (service_of n) None)
