use Rattle.point_exits.specs.{Deciding.{IsWinnerBelow}, AfterEffect.{Adds}}
use Rattle.point_exits.proofs.contest.Contest.push_winners.Given as goal

abbrev pub invariant-loop-task : goal.invariant-loop-task
invariant-loop-task l = Adds l.self.values.now (IsWinnerBelow l.task) l.initial.groups.items l.groups.items
