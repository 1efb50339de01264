use Rattle.std.proofs.Common.{◌≡◌, drop}
use Rattle.std.specs.List.{list_any}
use Rattle.oil_system.specs.declared.system.IsrObject.{IsrObject}
use Rattle.task_code.specs.declared.tree.BodyKind.TheVariants.{Isr}
use Rattle.block_graph.specs.Rules.{lacks_code}
use Rattle.block_graph.proofs.owners.has_bare_isr.Given as goal

abbrev pub invariant-loop-isr : goal.invariant-loop-isr
invariant-loop-isr l = list_any (λ (isr : IsrObject). lacks_code Isr l.bodies isr.name) (drop l.isr-index l.isrs) ≡ list_any (λ (isr : IsrObject). lacks_code Isr l.bodies isr.name) l.isrs
