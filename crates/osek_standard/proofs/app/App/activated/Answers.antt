-- an activated task's state
use Rattle.std.proofs.Common.{refl}
use Rattle.osek_standard.proofs.app.App.activated.Goals as goal

pub returns : goal.returns
returns c = rw (c.live_at.ensures, ← c.task.ensures) refl
