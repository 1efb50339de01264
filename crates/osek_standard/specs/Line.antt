-- The line of the tasks that are to run (ISO 17356-3, task priority): tasks of one priority run in the order of their
-- activation, a preempted task is the first of its priority, and one that is released from waiting is the last.
use Rattle.std.specs.{Prelude.{ℕ, ◌+◌, ◌==◌, List, [], ◌∷◌, ◌++◌, if◌then◌else◌, Some, None}, List.{count_by}, declared.option.Option.{Option}}
use Rattle.osek_values.specs.{declared.numbers.TaskNo.{TaskNo}, Numbers.{task_no}, Line.{place_in_line, without_first}}
use Rattle.osek_standard.specs.{declared.{task_state.Activity.{Activity, TheVariants.{Suspended, Live, Waiting}}, state.State.{State}}, States.{task_of, is_that_task}}

abbrev pub with_line : State → List TaskNo → State
with_line s line = record s { line = line }

-- a task goes last
abbrev pub last_in_line : State → ℕ → State
last_in_line s t = with_line s (s.line ++ task_no t ∷ [])

-- a task goes first, if there is one
abbrev pub first_in_line : State → Option TaskNo → State
first_in_line s None = s
first_in_line s (Some t) = with_line s (t ∷ s.line)

-- a task that gets the processor loses its first place
abbrev pub out_of_line : State → Option TaskNo → State
out_of_line s None = s
out_of_line s (Some t) = with_line s (without_first s.line t.0)

-- whose turn comes: the running or interrupted task, and then by the line
abbrev pub turn : State → ℕ → ℕ
turn s t = if is_that_task (task_of s.processor) t then 0 else 1 + place_in_line s.line t

-- how often a task stands in the line
abbrev pub places : State → ℕ → ℕ
places s t = count_by (λ (n : TaskNo). n.0 == t) s.line

-- how often it has to, beside this running or interrupted task: once for each further activation, and once more unless
-- it is that task
abbrev pub places_due : Option TaskNo → ℕ → Activity → ℕ
places_due current t Suspended = 0
places_due current t (Live x) = if is_that_task current t then x.further else x.further + 1
places_due current t (Waiting b) = 0
