-- What ISO 17356-3 guarantees of each state that a run comes to, in one record.
use Rattle.std.specs.Prelude.{◌≡◌, ℕ, Bool, true, Option, Some}
use Rattle.osek_values.specs.declared.numbers.{ResNo.{ResNo}, SourceNo.{SourceNo}, TaskNo.{TaskNo}}
use Rattle.osek_values.specs.declared.status.Status.TheVariants.{Ok}
use Rattle.osek_standard.specs.{declared.{app.App.{App}, state.State.{State}}, TaskStates.{is_inside}, States.{task_state}, Effects.{effect}}
use Rattle.osek_standard.specs.{Internal.{IsInside, internal_of}}
use Rattle.kernel_guarantees.specs.{Awaiting.{AllAwaitNone}, Conditions.{HasGroups, HasTops}, Locks.{IsInterruptedUnlocked}, Nesting.{IsNested}, Reached.{IsReached}, Scheduling.{IsSettled}}
use Rattle.kernel_guarantees.specs.{Resources.{IsHeldOnce, IsRoutineTaking, IsTaking}, Underway.{IsStacked}}

-- of the tasks that name one INTERNAL resource, one at most has it
abbrev pub IsOneInside : App → State → Type 0
IsOneInside app s = (t u : ℕ) (r : ResNo) → internal_of app t ≡ Some r → internal_of app u ≡ Some r
    → is_inside (task_state s t) ≡ true → is_inside (task_state s u) ≡ true → t ≡ u

-- GetResource answers E_OK to a task that may take the resource and hasn't taken it
abbrev pub GivesToTasks : App → State → Type 0
GivesToTasks app s = (c : TaskNo) (r : ResNo) (choice : Bool) → IsTaking app s c r → (effect app s choice).notes.status ≡ Some Ok

-- and so to a routine
abbrev pub GivesToRoutines : App → State → Type 0
GivesToRoutines app s = (k : SourceNo) (over : Option TaskNo) (r : ResNo) (choice : Bool)
    → IsRoutineTaking app s k over r → (effect app s choice).notes.status ≡ Some Ok

pub record IsGuaranteed (app : App) (s : State) : Type 0 where
  -- a run comes to it: so what is said of steps from such a state holds of each step from it
  pub reached : IsReached app s
  -- no resource is held by two, and none is refused because another holds it
  pub held_once : IsHeldOnce s
  pub to_tasks : GivesToTasks app s
  pub to_routines : HasTops app → GivesToRoutines app s
  -- who names an INTERNAL resource has it where it runs or is interrupted, and of those who name one, one at most
  pub inside : IsInside app s
  pub one_inside : HasGroups app → IsOneInside app s
  -- priorities: what keeps inversion bounded, and who runs
  pub stacked : IsStacked app s
  pub settled : IsSettled app s
  -- routines nest by priority, and none begins over a lock
  pub nested : IsNested app s
  pub unlocked : IsInterruptedUnlocked app s
  -- a task that waits has none of the events that it waits for
  pub waiting : AllAwaitNone app s
