use Rattle.std.proofs.Common.{◌≡◌, drop}
use Rattle.block_graph.specs.Locks.{are_same}
use Rattle.block_graph.proofs.locks.are_same.Given as goal

abbrev pub invariant-loop-i : goal.invariant-loop-i
invariant-loop-i l = are_same (drop l.i l.some) (drop l.i l.others) ≡ are_same l.some l.others
