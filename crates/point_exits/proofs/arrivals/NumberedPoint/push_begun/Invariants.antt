use Rattle.point_exits.proofs.ArrivingGroups.{AreBegun}
use Rattle.point_exits.proofs.arrivals.NumberedPoint.push_begun.Given as goal

abbrev pub invariant-loop-rule : goal.invariant-loop-rule
invariant-loop-rule l = AreBegun l.self.app.now l.self.point l.self.entry.now l.rule-items l.rule-index l.initial.pool l.initial.groups.items l.pool l.groups.items l.shared
