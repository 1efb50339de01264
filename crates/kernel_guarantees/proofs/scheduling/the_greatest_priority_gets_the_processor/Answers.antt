use Rattle.kernel_guarantees.proofs.Preempting.{greatest_gets}
use Rattle.kernel_guarantees.proofs.scheduling.the_greatest_priority_gets_the_processor.Goals as goal

pub returns : goal.returns
returns c = λ app s e x u reached free now other live. greatest_gets app s reached e x u free now other live
