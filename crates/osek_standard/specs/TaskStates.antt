-- The states of the task models (ISO 17356-3, task state model). A Live task is ready or running; which, the
-- processor says.
use Rattle.std.specs.{Prelude.{ℕ, Bool, true, false, ◌==◌, List, []}, List.{list_any}}
use Rattle.osek_values.specs.{declared.numbers.ResNo.{ResNo}, Numbers.{mask}}
use Rattle.osek_standard.specs.declared.task_state.{TaskState.{TaskState}, Activity.{Activity, TheVariants.{Suspended, Live, Waiting}}}

abbrev pub suspended : TaskState
suspended = record { activity = Suspended; events = mask 0 }

abbrev pub is_suspended_activity : Activity → Bool
is_suspended_activity Suspended = true
is_suspended_activity (Live x) = false
is_suspended_activity (Waiting b) = false

abbrev pub is_suspended : TaskState → Bool
is_suspended x = is_suspended_activity x.activity

abbrev pub is_live_activity : Activity → Bool
is_live_activity Suspended = false
is_live_activity (Live x) = true
is_live_activity (Waiting b) = false

abbrev pub is_live : TaskState → Bool
is_live x = is_live_activity x.activity

-- the resources that it holds, the first taken first
abbrev pub held_in : Activity → List ResNo
held_in Suspended = []
held_in (Live x) = x.held
held_in (Waiting b) = []

abbrev pub held : TaskState → List ResNo
held x = held_in x.activity

-- the activations that wait for it to end
abbrev pub further_in : Activity → ℕ
further_in Suspended = 0
further_in (Live x) = x.further
further_in (Waiting b) = 0

abbrev pub further : TaskState → ℕ
further x = further_in x.activity

-- it has its INTERNAL resource
abbrev pub is_inside_in : Activity → Bool
is_inside_in Suspended = false
is_inside_in (Live x) = x.inside
is_inside_in (Waiting b) = false

abbrev pub is_inside : TaskState → Bool
is_inside x = is_inside_in x.activity

-- a stack has this resource
abbrev pub holds : List ResNo → ℕ → Bool
holds stack r = list_any (λ q. q.0 == r) stack
