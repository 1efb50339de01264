use Rattle.std.proofs.Common.{◌≡◌, drop}
use Rattle.std.specs.List.{list_any}
use Rattle.oil_system.specs.declared.system.TaskObject.{TaskObject}
use Rattle.task_code.specs.declared.tree.BodyKind.TheVariants.{Task}
use Rattle.block_graph.specs.Rules.{lacks_code}
use Rattle.block_graph.proofs.owners.has_bare_task.Given as goal

abbrev pub invariant-loop-task : goal.invariant-loop-task
invariant-loop-task l = list_any (λ (task : TaskObject). lacks_code Task l.bodies task.name) (drop l.task-index l.tasks) ≡ list_any (λ (task : TaskObject). lacks_code Task l.bodies task.name) l.tasks
