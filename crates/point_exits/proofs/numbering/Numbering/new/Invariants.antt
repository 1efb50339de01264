use Rattle.point_exits.proofs.LevelLaws.{AreLevelsUpTo}
use Rattle.point_exits.proofs.numbering.Numbering.new.Given as goal

abbrev pub invariant-loop-task : goal.invariant-loop-task
invariant-loop-task l = AreLevelsUpTo l.app l.fn.pool l.task l.tasks
