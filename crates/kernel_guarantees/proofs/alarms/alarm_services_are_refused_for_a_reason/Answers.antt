use Rattle.kernel_guarantees.proofs.CallAcceptances.{absolute_is_accepted, armed_is_refused, cancel_is_accepted, idle_is_refused, relative_is_accepted}
use Rattle.kernel_guarantees.proofs.alarms.alarm_services_are_refused_for_a_reason.Goals as goal

pub returns : goal.returns
returns c = record {
  relative = λ app s choice a i y reached active idle is some within round. relative_is_accepted app s choice active a idle i y is some within round;
  absolute = λ app s choice a v y reached active idle is within round. absolute_is_accepted app s choice active a idle v y is within round;
  armed = λ app s choice a at cycle n y reached active armed is. armed_is_refused app s choice active a at cycle armed n y is;
  cancels = λ app s choice a at cycle reached active armed is. cancel_is_accepted app s choice active a at cycle armed is;
  idle = λ app s choice a reached active idle is. idle_is_refused app s choice active a idle is;
}
