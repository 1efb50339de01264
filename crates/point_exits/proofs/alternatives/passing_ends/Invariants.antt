-- the conditions so far
use Rattle.std.proofs.Common.{◌≡◌, take}
use Rattle.point_exits.specs.Alternatives.{ArePassingEnds}
use Rattle.point_exits.proofs.alternatives.passing_ends.Given as goal

abbrev pub invariant-loop-condition : goal.invariant-loop-condition
invariant-loop-condition l = record {
  pool : l.pool ≡ l.fn.pool;
  ends : ArePassingEnds l.fn.pool l.fn.before (take l.condition-index l.condition-items) l.fn.target l.ends.items;
}
