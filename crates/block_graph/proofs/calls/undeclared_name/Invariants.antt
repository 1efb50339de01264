use Rattle.std.proofs.Common.{◌≡◌, drop}
use Rattle.oil_model.specs.Lines.{sooner, least}
use Rattle.block_graph.specs.Rules.{undeclared_names}
use Rattle.block_graph.proofs.calls.undeclared_name.Given as goal

abbrev pub invariant-loop-body : goal.invariant-loop-body
invariant-loop-body l = sooner l.best (least (undeclared_names l.system (drop l.body-index l.bodies))) ≡ least (undeclared_names l.system l.bodies)
