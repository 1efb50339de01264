use Rattle.point_exits.specs.AfterEffect.{IsLeftBy}
use Rattle.point_exits.proofs.contest.Contest.left_by.Given as goal

abbrev pub invariant-loop-task : goal.invariant-loop-task
invariant-loop-task l = IsLeftBy l.self.values.now l.claim l.task l.left
