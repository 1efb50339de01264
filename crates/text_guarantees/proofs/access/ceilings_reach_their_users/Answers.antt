use Rattle.text_guarantees.proofs.TextLaws.{routine_reached, task_reached}
use Rattle.text_guarantees.proofs.access.ceilings_reach_their_users.Goals as goal

pub returns : goal.returns
returns c = record {
  tasks = λ oil code system app t r declares gives may. task_reached oil code system app declares gives t r may;
  routines = λ oil code system app k b r declares gives own calls. routine_reached oil code system app declares gives k b r own calls;
}
