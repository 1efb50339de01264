use Rattle.std.proofs.Common.{◌≡◌, drop, ◌++◌}
use Rattle.std.specs.Prelude.{codes, map}
use Rattle.oil_model.specs.{Objects.{objects_of}, Systems.{counter}}
use Rattle.oil_model.proofs.alarms.counters.Given as goal

abbrev pub invariant-loop-object : goal.invariant-loop-object
invariant-loop-object l = l.found.items ++ map counter (objects_of (codes "COUNTER") (drop l.object-index l.objects)) ≡ map counter (objects_of (codes "COUNTER") l.objects)
