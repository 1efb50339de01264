use Rattle.kernel_guarantees.proofs.GivingWay.{schedule_gives_way}
use Rattle.kernel_guarantees.proofs.scheduling.schedule_gives_way_to_higher_tasks.Goals as goal

pub returns : goal.returns
returns c = λ app s e d u reached k live other. schedule_gives_way app s e d u reached k live other
