-- twice the task's priority
use Rattle.std.proofs.Common.{refl}
use Rattle.ceiling_rules.proofs.base_priority.Goals as goal

pub returns : goal.returns
returns c = rw (← c.task.ensures) refl
