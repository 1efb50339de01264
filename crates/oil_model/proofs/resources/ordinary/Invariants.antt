use Rattle.std.proofs.Common.{◌≡◌, drop, ◌++◌}
use Rattle.std.specs.Prelude.{codes, map, filter}
use Rattle.oil_model.specs.{declared.objects.Category.TheVariants.{Two}, Objects.{objects_of, is_isr, is_ordinary}, Systems.{resource}}
use Rattle.oil_model.proofs.resources.ordinary.Given as goal

abbrev pub invariant-loop-object : goal.invariant-loop-object
invariant-loop-object l =
    l.found.items ++ map (resource (objects_of (codes "TASK") l.objects) (filter (is_isr Two) l.objects)) (filter (is_ordinary l.scheduler) (drop l.object-index l.objects))
    ≡ map (resource (objects_of (codes "TASK") l.objects) (filter (is_isr Two) l.objects)) (filter (is_ordinary l.scheduler) l.objects)
