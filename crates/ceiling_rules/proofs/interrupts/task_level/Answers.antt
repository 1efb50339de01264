-- the interrupt ceilings of what the task has
use Rattle.std.proofs.Common.{◌≡◌, Some, sym, ◌∙◌}
use Rattle.osek_standard.specs.States.{task_of}
use Rattle.ceiling_rules.proofs.Occupied.{level_occupied}
use Rattle.ceiling_rules.proofs.interrupts.task_level.Goals as goal

pub returns-in-Live : goal.returns-in-Live
returns-in-Live c =
    let current : task_of c.args.state.now.processor ≡ Some c.in-Some.task = sym c.current.ensures ∙ c.in-Some.is in
    rw current (level_occupied c.args.app.now c.in-Some.task.0 _ _ c.in-Live.standing _ c.task.ensures c.in-Live.is c.as_slice.ensures 0 _ _ c.inside_level.ensures c.highest_level.ensures)
