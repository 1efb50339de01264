use Rattle.numbered_sets.specs.NumberedEntries.{numbers_at}
use Rattle.point_exits.proofs.NarrowingLaws.{IsNeedUpTo}
use Rattle.point_exits.proofs.task_levels.TaskLevels.need.Given as goal

abbrev pub invariant-loop-level : goal.invariant-loop-level
invariant-loop-level l = IsNeedUpTo l.level-items (numbers_at l.entry l.fn.task.0) l.level-index l.need
