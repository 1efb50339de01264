use Rattle.task_code.proofs.BodiesRead.{reads_owned}
use Rattle.task_code.proofs.bodies.owned.Goals as goal

pub returns : goal.returns
returns c = reads_owned _ _ _ _ _ _ _ _ _ c.in_ok-rest.ensures.1 c.in_ok-owner.ensures c.in_ok-rest-2.ensures.1 c.in_ok-statements.ensures
