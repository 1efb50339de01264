use Rattle.std.proofs.Common.{◌-◌, ◌≤◌, ◌<◌, IsTrue}
use Rattle.numbered_sets.specs.Numbers.{has_number}
use Rattle.point_exits.proofs.LevelsFrom.{AreTaken}
use Rattle.point_exits.proofs.task_levels.TaskLevels.numbers_from.Given as goal

abbrev pub decreases-loop-number : goal.decreases-loop-number
decreases-loop-number l = l.count - l.number

abbrev pub invariant-loop-number : goal.invariant-loop-number
invariant-loop-number l = AreTaken l.above l.number l.from × (l.number ≤ l.count) × (l.number < l.count → IsTrue (has_number l.above l.number))
