use Rattle.kernel_guarantees.proofs.Settling.{reached_is_settled}
use Rattle.kernel_guarantees.proofs.scheduling.idle_only_where_none_is_ready.Goals as goal

pub returns : goal.returns
returns c = λ app s t reached idle. (reached_is_settled app s reached).idle idle t
