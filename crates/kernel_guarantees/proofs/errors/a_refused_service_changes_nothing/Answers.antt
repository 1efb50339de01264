use Rattle.kernel_guarantees.proofs.{InsideFlags.{reached_is_inside}, Refusals.{refused_stays}}
use Rattle.kernel_guarantees.proofs.errors.a_refused_service_changes_nothing.Goals as goal

pub returns : goal.returns
returns c = λ app s choice k reached active is error. refused_stays app s choice k (reached_is_inside app s reached) active is error
