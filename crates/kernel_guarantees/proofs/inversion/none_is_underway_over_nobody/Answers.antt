use Rattle.kernel_guarantees.proofs.Settling.{reached_is_settled}
use Rattle.kernel_guarantees.proofs.inversion.none_is_underway_over_nobody.Goals as goal

pub returns : goal.returns
returns c = λ app s u reached nobody going. (reached_is_settled app s reached).bare nobody going u
