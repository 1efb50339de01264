use Rattle.std.proofs.Common.{◌≡◌, drop, ◌++◌}
use Rattle.std.specs.Prelude.{codes, map}
use Rattle.oil_model.specs.{Objects.{objects_of}, Systems.{task}}
use Rattle.oil_model.proofs.tasks.tasks.Given as goal

abbrev pub invariant-loop-object : goal.invariant-loop-object
invariant-loop-object l = l.found.items ++ map (task l.modes l.events l.resources) (objects_of (codes "TASK") (drop l.object-index l.objects)) ≡ map (task l.modes l.events l.resources) (objects_of (codes "TASK") l.objects)
