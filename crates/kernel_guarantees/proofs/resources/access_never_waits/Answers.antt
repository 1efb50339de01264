use Rattle.kernel_guarantees.proofs.{Access.{access_is_given}, Ceilings.{nobody_has}, Nesting.{reached_is_nested}, RoutineAccess.{routine_access_is_given}, Settling.{reached_is_settled}, Reaching.{reached_is_well}, StackedSteps.{reached_is_stacked}}
use Rattle.kernel_guarantees.proofs.resources.access_never_waits.Goals as goal

pub returns : goal.returns
returns c = record {
  free = λ app s t r reached runs low mine. nobody_has app s (reached_is_stacked app s reached) (reached_is_well app s reached) t runs r low mine;
  task = λ app s t r choice reached h. access_is_given app s (reached_is_well app s reached) (reached_is_stacked app s reached) t r choice h.runs h.calls h.under h.free;
  routine = λ app s k over r choice tops reached h.
      routine_access_is_given app s (reached_is_well app s reached) (reached_is_stacked app s reached) (reached_is_settled app s reached) (reached_is_nested app s reached) tops k over h.runs r h.calls h.under h.free choice;
}
