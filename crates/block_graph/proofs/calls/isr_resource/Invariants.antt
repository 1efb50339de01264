use Rattle.std.proofs.Common.{◌≡◌, drop}
use Rattle.oil_model.specs.Lines.{sooner, least}
use Rattle.block_graph.specs.Rules.{isr_resources}
use Rattle.block_graph.proofs.calls.isr_resource.Given as goal

abbrev pub invariant-loop-body : goal.invariant-loop-body
invariant-loop-body l = sooner l.best (least (isr_resources l.system (drop l.body-index l.bodies))) ≡ least (isr_resources l.system l.bodies)
