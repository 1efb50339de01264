-- By these a proof tells two calls apart: a call is the numbers and the references in it.
use Rattle.std.specs.Prelude.{◌≡◌, ◌==◌, ℕ, List, [], ◌∷◌, drop, slice_index_or, if◌then◌else◌, refl}
use Rattle.std.proofs.Common.{ap}
use Rattle.osek_values.specs.declared.status.Status.{Status}
use Rattle.osek_values.specs.declared.status.Status.TheVariants as status
use Rattle.osek_values.specs.declared.lock.Lock.{Lock, TheVariants.{SuspendAll, ResumeAll, SuspendOs, ResumeOs, DisableAll, EnableAll}}
use Rattle.task_code.specs.declared.call.{Reference.{Reference}, Call.{Call, TheVariants.{ActivateTask, TerminateTask, ChainTask, Schedule, GetResource, ReleaseResource, SetEvent, ClearEvent, GetEvent, WaitEvent, SetRelAlarm, SetAbsAlarm, CancelAlarm, GetAlarm, GetTaskId, GetTaskState, GetActiveApplicationMode, ShutdownOs, LockCall}}}

abbrev pub status_number : Status → ℕ
status_number status.Ok = 0
status_number status.Access = 1
status_number status.CallLevel = 2
status_number status.Id = 3
status_number status.Limit = 4
status_number status.NoFunc = 5
status_number status.Resource = 6
status_number status.State = 7
status_number status.Value = 8

abbrev pub lock_number : Lock → ℕ
lock_number SuspendAll = 0
lock_number ResumeAll = 1
lock_number SuspendOs = 2
lock_number ResumeOs = 3
lock_number DisableAll = 4
lock_number EnableAll = 5

-- the kind of a call, and the numbers in it
abbrev pub call_numbers : Call → List ℕ
call_numbers (ActivateTask t) = 0 ∷ []
call_numbers TerminateTask = 1 ∷ []
call_numbers (ChainTask t) = 2 ∷ []
call_numbers Schedule = 3 ∷ []
call_numbers (GetResource r) = 4 ∷ []
call_numbers (ReleaseResource r) = 5 ∷ []
call_numbers (SetEvent t m) = 6 ∷ []
call_numbers (ClearEvent m) = 7 ∷ []
call_numbers (GetEvent t) = 8 ∷ []
call_numbers (WaitEvent m) = 9 ∷ []
call_numbers (SetRelAlarm a x y) = 10 ∷ x ∷ y ∷ []
call_numbers (SetAbsAlarm a x y) = 11 ∷ x ∷ y ∷ []
call_numbers (CancelAlarm a) = 12 ∷ []
call_numbers (GetAlarm a) = 13 ∷ []
call_numbers GetTaskId = 14 ∷ []
call_numbers (GetTaskState t) = 15 ∷ []
call_numbers GetActiveApplicationMode = 16 ∷ []
call_numbers (ShutdownOs s) = 17 ∷ status_number s ∷ []
call_numbers (LockCall l) = 18 ∷ lock_number l ∷ []

abbrev pub call_references : Call → List Reference
call_references (ActivateTask t) = t ∷ []
call_references (ChainTask t) = t ∷ []
call_references (GetResource r) = r ∷ []
call_references (ReleaseResource r) = r ∷ []
call_references (SetEvent t m) = t ∷ m
call_references (ClearEvent m) = m
call_references (GetEvent t) = t ∷ []
call_references (WaitEvent m) = m
call_references (SetRelAlarm a x y) = a ∷ []
call_references (SetAbsAlarm a x y) = a ∷ []
call_references (CancelAlarm a) = a ∷ []
call_references (GetAlarm a) = a ∷ []
call_references (GetTaskState t) = t ∷ []
call_references _ = []

-- the call that these are of
abbrev pub status_at : ℕ → Status
status_at n =
    if n == 0 then status.Ok
    else (if n == 1 then status.Access
    else (if n == 2 then status.CallLevel
    else (if n == 3 then status.Id
    else (if n == 4 then status.Limit
    else (if n == 5 then status.NoFunc
    else (if n == 6 then status.Resource
    else (if n == 7 then status.State
    else status.Value)))))))

abbrev pub lock_at : ℕ → Lock
lock_at n =
    if n == 0 then SuspendAll
    else (if n == 1 then ResumeAll
    else (if n == 2 then SuspendOs
    else (if n == 3 then ResumeOs
    else (if n == 4 then DisableAll
    else EnableAll))))

abbrev pub call_by : ℕ → ℕ → ℕ → Reference → List Reference → Call
call_by kind x y r references =
    if kind == 0 then ActivateTask r
    else (if kind == 1 then TerminateTask
    else (if kind == 2 then ChainTask r
    else (if kind == 3 then Schedule
    else (if kind == 4 then GetResource r
    else (if kind == 5 then ReleaseResource r
    else (if kind == 6 then SetEvent r (drop 1 references)
    else (if kind == 7 then ClearEvent references
    else (if kind == 8 then GetEvent r
    else (if kind == 9 then WaitEvent references
    else (if kind == 10 then SetRelAlarm r x y
    else (if kind == 11 then SetAbsAlarm r x y
    else (if kind == 12 then CancelAlarm r
    else (if kind == 13 then GetAlarm r
    else (if kind == 14 then GetTaskId
    else (if kind == 15 then GetTaskState r
    else (if kind == 16 then GetActiveApplicationMode
    else (if kind == 17 then ShutdownOs (status_at x)
    else LockCall (lock_at x))))))))))))))))))

abbrev pub call_of : List ℕ → List Reference → Call
call_of numbers references =
    call_by (slice_index_or numbers 0 0) (slice_index_or numbers 1 0) (slice_index_or numbers 2 0) (slice_index_or references 0 (record { name = []; line = 0 })) references

-- references as the names and lines in them
abbrev pub flat : List Reference → List (List ℕ)
flat [] = []
flat (r ∷ more) = r.name ∷ (r.line ∷ []) ∷ flat more

abbrev pub unflat : List (List ℕ) → List Reference
unflat (name ∷ (line ∷ _) ∷ more) = record { name = name; line = line } ∷ unflat more
unflat _ = []

pub unflat-flat : (references : List Reference) → unflat (flat references) ≡ references
unflat-flat [] = refl
unflat-flat (r ∷ more) = ap (λ z. r ∷ z) (unflat-flat more)

pub status_at-number : (s : Status) → status_at (status_number s) ≡ s
status_at-number status.Ok = refl
status_at-number status.Access = refl
status_at-number status.CallLevel = refl
status_at-number status.Id = refl
status_at-number status.Limit = refl
status_at-number status.NoFunc = refl
status_at-number status.Resource = refl
status_at-number status.State = refl
status_at-number status.Value = refl

pub lock_at-number : (l : Lock) → lock_at (lock_number l) ≡ l
lock_at-number SuspendAll = refl
lock_at-number ResumeAll = refl
lock_at-number SuspendOs = refl
lock_at-number ResumeOs = refl
lock_at-number DisableAll = refl
lock_at-number EnableAll = refl

pub call_of-parts : (c : Call) → call_of (call_numbers c) (call_references c) ≡ c
call_of-parts (ActivateTask t) = refl
call_of-parts TerminateTask = refl
call_of-parts (ChainTask t) = refl
call_of-parts Schedule = refl
call_of-parts (GetResource r) = refl
call_of-parts (ReleaseResource r) = refl
call_of-parts (SetEvent t m) = refl
call_of-parts (ClearEvent m) = refl
call_of-parts (GetEvent t) = refl
call_of-parts (WaitEvent m) = refl
call_of-parts (SetRelAlarm a x y) = refl
call_of-parts (SetAbsAlarm a x y) = refl
call_of-parts (CancelAlarm a) = refl
call_of-parts (GetAlarm a) = refl
call_of-parts GetTaskId = refl
call_of-parts (GetTaskState t) = refl
call_of-parts GetActiveApplicationMode = refl
call_of-parts (ShutdownOs s) = λ i. ShutdownOs (status_at-number s i)
call_of-parts (LockCall l) = λ i. LockCall (lock_at-number l i)
