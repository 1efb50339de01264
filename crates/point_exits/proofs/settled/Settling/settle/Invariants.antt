use Rattle.std.proofs.Common.{◌≤◌}
use Rattle.point_exits.proofs.SettlingSteps.{AreSettledUpTo}
use Rattle.point_exits.proofs.settled.Settling.settle.Given as goal

abbrev pub invariant-loop-place : goal.invariant-loop-place
invariant-loop-place l = record {
  from : l.from ≤ l.place;
  done : AreSettledUpTo l.self.app.now l.self.pool.now l.self.stay l.from l.initial.groups.items l.place l.groups.items;
}
