use Rattle.std.proofs.Common.{◌≡◌, drop, ◌++◌}
use Rattle.std.specs.Prelude.{codes, map}
use Rattle.oil_model.specs.{Objects.{objects_of}, Systems.{names_of, alarm}}
use Rattle.oil_model.proofs.alarms.alarms.Given as goal

abbrev pub invariant-loop-object : goal.invariant-loop-object
invariant-loop-object l = l.found.items ++ map (alarm (names_of (codes "COUNTER") l.objects) (names_of (codes "TASK") l.objects) l.modes l.events) (objects_of (codes "ALARM") (drop l.object-index l.objects)) ≡ map (alarm (names_of (codes "COUNTER") l.objects) (names_of (codes "TASK") l.objects) l.modes l.events) (objects_of (codes "ALARM") l.objects)
