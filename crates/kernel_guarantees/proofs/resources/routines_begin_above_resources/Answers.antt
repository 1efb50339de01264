use Rattle.kernel_guarantees.proofs.{RoutineAccess.{begins_above_current, begins_above_routine, begins_above_task}, Settling.{reached_is_settled}, StackedSteps.{reached_is_stacked}}
use Rattle.kernel_guarantees.proofs.resources.routines_begin_above_resources.Goals as goal

pub returns : goal.returns
returns c = record {
  of_routines = λ app s k l r reached arrives. begins_above_routine app s k arrives l r;
  of_interrupted_task = λ app s k d r reached arrives. begins_above_current app s k arrives d r;
  of_tasks = λ app s k u r tops reached arrives. begins_above_task app s k arrives (reached_is_stacked app s reached) (reached_is_settled app s reached) tops u r;
}
