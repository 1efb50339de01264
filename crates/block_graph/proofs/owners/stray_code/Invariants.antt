use Rattle.std.proofs.Common.{◌≡◌, drop}
use Rattle.oil_model.specs.Lines.{sooner, least}
use Rattle.block_graph.specs.Rules.{stray_code}
use Rattle.block_graph.proofs.owners.stray_code.Given as goal

abbrev pub invariant-loop-body : goal.invariant-loop-body
invariant-loop-body l = sooner l.best (least (stray_code l.system (drop l.body-index l.bodies))) ≡ least (stray_code l.system l.bodies)
