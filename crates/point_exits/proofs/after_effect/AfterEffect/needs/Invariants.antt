use Rattle.point_exits.specs.Narrowing.{AreNeeds}
use Rattle.point_exits.proofs.after_effect.AfterEffect.needs.Given as goal

abbrev pub invariant-loop-task : goal.invariant-loop-task
invariant-loop-task l = AreNeeds l.self.app.now l.self.pool.now l.self.after l.task l.needs
