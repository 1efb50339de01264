-- the tasks with one put in place
use Rattle.std.proofs.Common.{◌≡◌, ℕ, List, slice_set, ◌∙◌, ap}
use Rattle.osek_standard.specs.{declared.{state.State.{State}, task_state.TaskState.{TaskState}}, States.{with_task}}
use Rattle.osek_standard.proofs.state.State.put_task.Goals as goal

put_there : (s : State) (i t : ℕ) (x : TaskState) (tasks : List TaskState) → tasks ≡ slice_set s.tasks i x → i ≡ t → record s { tasks = tasks } ≡ with_task s t x
put_there s i t x tasks e f = ap (λ (l : List TaskState). record s { tasks = l }) (e ∙ ap (λ (n : ℕ). slice_set s.tasks n x) f)

pub returns : goal.returns
returns c = put_there _ _ _ _ _ c.put.ensures assumption
