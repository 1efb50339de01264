use Rattle.std.proofs.Common.{◌-◌, ◌≤◌, ◌<◌, IsTrue}
use Rattle.flow_model.specs.declared.runner.Runner.TheVariants as runners
use Rattle.numbered_sets.specs.Numbers.{has_number}
use Rattle.point_exits.proofs.TakenBlocks.{AreTakenBlocks}
use Rattle.point_exits.proofs.group.at_task_blocks.Given as goal

abbrev pub decreases-loop-number : goal.decreases-loop-number
decreases-loop-number l = l.count - l.number

abbrev pub invariant-loop-number : goal.invariant-loop-number
invariant-loop-number l = AreTakenBlocks l.pool l.entry (runners.Task l.fn.task) l.number l.left l.ends × (l.number ≤ l.count) × (l.number < l.count → IsTrue (has_number l.left l.number))
