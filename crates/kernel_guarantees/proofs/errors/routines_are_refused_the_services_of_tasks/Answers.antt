use Rattle.kernel_guarantees.proofs.CallRefusals.{routine_is_refused}
use Rattle.kernel_guarantees.proofs.errors.routines_are_refused_the_services_of_tasks.Goals as goal

pub returns : goal.returns
returns c = λ app s choice k reached active calls needs. routine_is_refused app s choice active k calls needs
