-- Interrupt locks in task code (ISO 17356-3, interrupt handling; that they pair in the text is this project's profile):
-- a body is walked in the order of its text with the locks that are open, the first opened first.
use Rattle.std.specs.Prelude.{ℕ, ◌-◌, nat_lt, ◌&&◌, Bool, true, false, not, if◌then◌else◌, List, [], ◌∷◌, ◌++◌, length, take, Option, Some, None, Result, Ok, Err, slice_get, unwrap_or}
use Rattle.std.specs.List.{list_any}
use Rattle.osek_values.specs.declared.{limits.TheConstants.{MAX_LOCKS}, lock.Lock.{Lock}}
use Rattle.osek_values.specs.declared.lock.Lock.TheVariants as lock
use Rattle.task_code.specs.declared.{call.Call.{Call, TheVariants.{LockCall}}, tree.Body.{Body}}
use Rattle.block_graph.specs.declared.locks.{Opener.{Opener, TheVariants.{SuspendAll, SuspendOs, DisableAll}}, Role.{Role, TheVariants.{Opens, Closes}}}
use Rattle.task_code.specs.Statements.{Statements, closed, work_then, if_then, if_else_then, while_then, call_then, closing_line}

abbrev pub is_opener : Opener → Opener → Bool
is_opener SuspendAll SuspendAll = true
is_opener SuspendOs SuspendOs = true
is_opener DisableAll DisableAll = true
is_opener _ _ = false

-- the same locks in the same order
abbrev pub are_same : List Opener → List Opener → Bool
are_same [] [] = true
are_same (a ∷ more) (b ∷ others) = is_opener a b && are_same more others
are_same _ _ = false

-- what a lock call does: it opens a lock, or closes the one that its own opener opened
abbrev pub role_of : Lock → Role
role_of lock.SuspendAll = Opens SuspendAll
role_of lock.ResumeAll = Closes SuspendAll
role_of lock.SuspendOs = Opens SuspendOs
role_of lock.ResumeOs = Closes SuspendOs
role_of lock.DisableAll = Opens DisableAll
role_of lock.EnableAll = Closes DisableAll

-- DisableAll doesn't nest in itself
abbrev pub is_doubled : List Opener → Opener → Bool
is_doubled locks DisableAll = list_any (is_opener DisableAll) locks
is_doubled locks _ = false

-- up to eight locks are open
abbrev pub may_open : List Opener → Opener → Bool
may_open locks opener = nat_lt (length locks) MAX_LOCKS && not (is_doubled locks opener)

abbrev pub is_some_opener : Opener → Option Opener → Bool
is_some_opener opener None = false
is_some_opener opener (Some other) = is_opener opener other

-- the lock that was opened last is this one
abbrev pub is_last : List Opener → Opener → Bool
is_last locks opener = is_some_opener opener (slice_get locks (length locks - 1))

-- the open locks behind a lock call, where it is allowed
abbrev pub behind_role : List Opener → Role → Option (List Opener)
behind_role locks (Opens opener) = if may_open locks opener then Some (locks ++ opener ∷ []) else None
behind_role locks (Closes opener) = if is_last locks opener then Some (take (length locks - 1) locks) else None

-- no other service may be called while a lock is open
abbrev pub unlocked_call : List Opener → Option (List Opener)
unlocked_call [] = Some []
unlocked_call (opener ∷ more) = None

abbrev pub behind_call : List Opener → Call → Option (List Opener)
behind_call locks (LockCall lock) = behind_role locks (role_of lock)
behind_call locks _ = unlocked_call locks

-- a call goes on with the locks that are open behind it, where it is allowed; else the walk fails at its line
abbrev pub goes_on : Option (List Opener) → ℕ → (List Opener → Result (List Opener) ℕ) → Result (List Opener) ℕ
goes_on None line next = Err line
goes_on (Some locks) line next = next locks

-- a closing brace goes on where the locks that are open are the wanted ones; else the walk fails at its line
abbrev pub closes : Result (List Opener) ℕ → List Opener → ℕ → (List Opener → Result (List Opener) ℕ) → Result (List Opener) ℕ
closes (Err failing) wanted line next = Err failing
closes (Ok locks) wanted line next = if are_same locks wanted then next locks else Err line

-- the locks that are open behind the branches of an `if`, which end with the same ones
abbrev pub both_close : Result (List Opener) ℕ → Result (List Opener) ℕ → ℕ → (List Opener → Result (List Opener) ℕ) → Result (List Opener) ℕ
both_close (Err failing) otherwise line next = Err failing
both_close (Ok locks) otherwise line next = closes otherwise locks line next

-- The locks that are open at the end of statements, by those before them; or the line of the first token that fails. A
-- missing `else` is an empty branch, and a loop's body ends with the locks that it began with.
abbrev pub walked : Statements → List Opener → Result (List Opener) ℕ
walked (closed line) locks = Ok locks
walked (work_then line count next) locks = walked next locks
walked (if_then line branch next) locks = closes (walked branch locks) locks (closing_line branch) (walked next)
walked (if_else_then line branch otherwise next) locks = both_close (walked branch locks) (walked otherwise locks) (closing_line otherwise) (walked next)
walked (while_then line condition body next) locks = closes (walked body locks) locks (closing_line body) (walked next)
walked (call_then line call next) locks = goes_on (behind_call locks call) line (walked next)

-- the locks that are open at the end of statements, as far as none fails
abbrev pub open_behind_by : List Opener → Result (List Opener) ℕ → List Opener
open_behind_by locks (Ok behind) = behind
open_behind_by locks (Err line) = locks

abbrev pub open_behind : Statements → List Opener → List Opener
open_behind statements locks = open_behind_by locks (walked statements locks)

abbrev pub open_behind_call : List Opener → Call → List Opener
open_behind_call locks call = unwrap_or (behind_call locks call) locks

-- the line on which a body's locks don't pair, if there is one; its closing brace finds no lock open
abbrev pub unpaired_by : Result (List Opener) ℕ → ℕ → List ℕ
unpaired_by (Err line) close = line ∷ []
unpaired_by (Ok []) close = []
unpaired_by (Ok (opener ∷ more)) close = close ∷ []

abbrev pub unpaired : Body → List ℕ
unpaired body = unpaired_by (walked body.statements []) (closing_line body.statements)
