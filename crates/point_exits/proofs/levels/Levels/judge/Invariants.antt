use Rattle.std.proofs.Common.{◌≡◌, ℕ, ◌<◌, length, get_or}
use Rattle.numbered_sets.specs.Pools.{values_at}
use Rattle.point_exits.specs.{declared.task_levels.TaskLevels.{TaskLevels}, Levels.{AreLevels}}
use Rattle.point_exits.proofs.levels.Levels.judge.Given as goal

abbrev pub invariant-loop-task : goal.invariant-loop-task
invariant-loop-task l = record {
  are : AreLevels l.app l.pool l.self;
  judged : (u : ℕ) (d : TaskLevels) → u < l.task → (get_or l.self.tasks u d).judged ≡ length (values_at l.pool u);
  same : l.self.insides ≡ l.initial.self.insides;
}
