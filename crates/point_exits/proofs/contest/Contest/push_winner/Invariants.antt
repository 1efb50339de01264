use Rattle.std.proofs.Common.{Some}
use Rattle.flow_model.specs.declared.case.Decision.TheVariants as decision
use Rattle.point_exits.specs.{Deciding.{IsAtFirst}, AfterEffect.{Adds}}
use Rattle.point_exits.proofs.contest.Contest.push_winner.Given as goal

abbrev pub invariant-loop-level : goal.invariant-loop-level
invariant-loop-level l = Adds l.self.values.now (IsAtFirst l.self.values.now.pool.now l.self.values.now.after l.task.0 l.level-items l.level-index (decision.To (Some l.task))) l.initial.groups.items l.groups.items
