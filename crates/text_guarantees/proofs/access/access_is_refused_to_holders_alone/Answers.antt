use Rattle.text_guarantees.proofs.TextLaws.{routine_is_given, task_is_given}
use Rattle.text_guarantees.proofs.access.access_is_refused_to_holders_alone.Goals as goal

pub returns : goal.returns
returns c = record {
  tasks = λ oil code system app s t r choice declares gives reached runs calls may free.
      task_is_given oil code system app declares gives s reached r choice calls t runs may free;
  routines = λ oil code system app s k over r choice declares gives reached runs calls free.
      routine_is_given oil code system app declares gives s reached r choice calls k over runs free;
}
