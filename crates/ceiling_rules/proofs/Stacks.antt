-- A Live task with another stack.
use Rattle.std.proofs.Common.{◌≡◌, ℕ, List, ap}
use Rattle.osek_values.specs.declared.numbers.ResNo.{ResNo}
use Rattle.osek_standard.specs.declared.{state.State.{State}, task_state.{Activity.TheVariants.{Live}, Standing.{Standing}, TaskState.{TaskState}}}
use Rattle.osek_standard.specs.{States.{task_state, with_task}, TaskStates.{held}, Services.{with_held}}

pub with_stack_of : (s : State) (t : ℕ) (x : TaskState) (at : Standing) (h : List ResNo) (f : List ResNo → List ResNo) → task_state s t ≡ x → x.activity ≡ Live at → h ≡ f at.held
    → with_task s t (record { activity = Live (record at { held = h }); events = x.events }) ≡ with_held s t (f (held (task_state s t)))
with_stack_of s t x at h f here live same =
    rw (here, live) (ap (λ (l : List ResNo). with_task s t (record { activity = Live (record at { held = l }); events = x.events })) same)
