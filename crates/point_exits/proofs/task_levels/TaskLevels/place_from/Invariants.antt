use Rattle.point_exits.proofs.LevelsFrom.{IsLeastUpTo}
use Rattle.point_exits.proofs.task_levels.TaskLevels.place_from.Given as goal

abbrev pub invariant-loop-place : goal.invariant-loop-place
invariant-loop-place l = IsLeastUpTo l.self.levels l.limit l.place l.bound l.least
