use Rattle.point_exits.specs.Levels.{ArePutFrom}
use Rattle.point_exits.proofs.task_levels.TaskLevels.put_from.Given as goal

abbrev pub invariant-loop-place : goal.invariant-loop-place
invariant-loop-place l = ArePutFrom l.priority l.initial.self l.self l.place
