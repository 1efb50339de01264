-- the task that a routine interrupted
use Rattle.std.proofs.Common.{refl}
use Rattle.osek_standard.proofs.state.State.current.Goals as goal

pub returns-in-Interrupted : goal.returns-in-Interrupted
returns-in-Interrupted c = rw c.in-Interrupted.is refl
