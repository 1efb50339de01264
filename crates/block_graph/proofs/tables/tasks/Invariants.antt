use Rattle.std.proofs.Common.{◌≡◌, drop, ◌++◌, map}
use Rattle.oil_system.specs.declared.system.TaskObject.{TaskObject}
use Rattle.task_code.specs.declared.tree.BodyKind.TheVariants as body_kind
use Rattle.block_graph.specs.Apps.{extent, task_with, tasks_of}
use Rattle.block_graph.proofs.tables.tasks.Given as goal

abbrev pub invariant-loop-declared : goal.invariant-loop-declared
invariant-loop-declared l = l.found.items ++ map (λ (x : TaskObject). task_with x (extent body_kind.Task x.name l.bodies 0)) (drop l.declared-index l.declared-items) ≡ tasks_of l.system l.bodies
