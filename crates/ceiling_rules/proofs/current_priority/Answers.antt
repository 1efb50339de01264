-- the ceilings of what it has
use Rattle.ceiling_rules.proofs.Occupied.{highest_occupied}
use Rattle.ceiling_rules.proofs.current_priority.Goals as goal

pub returns-in-Live : goal.returns-in-Live
returns-in-Live c =
    highest_occupied c.args.app.now c.args.task.0 _ _ c.in-Live.standing _ c.task.ensures c.in-Live.is c.as_slice.ensures _ _ _ c.inside_priority.ensures c.highest.ensures
