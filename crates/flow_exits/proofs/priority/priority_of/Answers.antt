-- the ceilings of what it has
use Rattle.flow_exits.proofs.Ceilings.{highest_occupied}
use Rattle.flow_exits.proofs.priority.priority_of.Goals as goal

pub returns : goal.returns
returns c = highest_occupied c.args.app.now c.args.task.0 c.args.live.now _ c.as_slice.ensures _ _ _ c.inside_priority.ensures c.highest.ensures
