use Rattle.kernel_guarantees.proofs.{CallAcceptances.{mode_is}, ServiceAnswers.{events_are, task_id_is, task_state_is, ticks_are}}
use Rattle.kernel_guarantees.proofs.values.services_tell_what_is_so.Goals as goal

pub returns : goal.returns
returns c = record {
  task_id = λ app s choice reached active is. task_id_is app s choice active is;
  task_state = λ app s choice t reached active is. task_state_is app s choice active t is;
  events = λ app s choice t reached active is ok. events_are app s choice active t is ok;
  alarm = λ app s choice a at cycle reached active armed is. ticks_are app s choice active a at cycle armed is;
  mode = λ app s choice reached active is. mode_is app s choice active is;
}
