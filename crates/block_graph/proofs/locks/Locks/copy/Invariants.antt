-- what was copied and what is left is the whole
use Rattle.std.proofs.Common.{◌≡◌, ◌++◌, drop}
use Rattle.block_graph.proofs.locks.Locks.copy.Given as goal

abbrev pub invariant-loop-opener : goal.invariant-loop-opener
invariant-loop-opener l = l.open.items ++ drop l.opener-index l.opener-items ≡ l.opener-items
