use Rattle.std.proofs.Common.{◌≡◌, drop}
use Rattle.oil_model.specs.Lines.{sooner, least}
use Rattle.block_graph.specs.Rules.{unpaired_locks}
use Rattle.block_graph.proofs.pairs.unpaired_lock.Given as goal

abbrev pub invariant-loop-body : goal.invariant-loop-body
invariant-loop-body l = sooner l.best (least (unpaired_locks (drop l.body-index l.bodies))) ≡ least (unpaired_locks l.bodies)
