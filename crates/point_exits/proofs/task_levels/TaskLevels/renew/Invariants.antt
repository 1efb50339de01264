use Rattle.std.proofs.Common.{◌≡◌}
use Rattle.point_exits.specs.Levels.{AreLevelsOf}
use Rattle.point_exits.proofs.task_levels.TaskLevels.renew.Given as goal

abbrev pub invariant-loop-number : goal.invariant-loop-number
invariant-loop-number l = AreLevelsOf l.values l.self × (l.self.judged ≡ l.number)
