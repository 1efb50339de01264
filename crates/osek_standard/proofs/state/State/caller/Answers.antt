-- the routine that calls
use Rattle.std.proofs.Common.{refl}
use Rattle.osek_standard.proofs.state.State.caller.Goals as goal

pub returns-in-Interrupted : goal.returns-in-Interrupted
returns-in-Interrupted c = rw c.in-Interrupted.is refl
