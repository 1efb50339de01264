use Rattle.kernel_guarantees.proofs.{Access.{one_inside}, Reaching.{reached_is_well}, StackedSteps.{reached_is_stacked}}
use Rattle.kernel_guarantees.proofs.resources.one_task_of_a_group_is_inside.Goals as goal

pub returns : goal.returns
returns c = λ app s t u r groups reached. one_inside app s (reached_is_well app s reached) (reached_is_stacked app s reached) groups t u r
