use Rattle.std.proofs.Common.{◌≡◌, drop, ◌++◌, map}
use Rattle.oil_system.specs.declared.system.IsrObject.{IsrObject}
use Rattle.task_code.specs.declared.tree.BodyKind.TheVariants as body_kind
use Rattle.block_graph.specs.Apps.{extent, isr_with, isrs_of}
use Rattle.block_graph.proofs.tables.isrs.Given as goal

abbrev pub invariant-loop-declared : goal.invariant-loop-declared
invariant-loop-declared l = l.found.items ++ map (λ (x : IsrObject). isr_with x (extent body_kind.Isr x.name l.bodies 0)) (drop l.declared-index l.declared-items) ≡ isrs_of l.system l.bodies
