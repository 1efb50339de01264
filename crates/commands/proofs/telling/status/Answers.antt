-- the status of a trap
use Rattle.commands.proofs.telling.status.Goals as goal

pub returns-in-Trapped : goal.returns-in-Trapped
returns-in-Trapped c = rw c.in-Trapped.is
