use Rattle.std.proofs.Common.{◌≡◌, drop, max}
use Rattle.std.specs.Prelude.{codes, filter}
use Rattle.oil_model.specs.{Objects.{objects_of}, Systems.{names_resource, above_all, ceiling}}
use Rattle.oil_model.proofs.resources.ceiling.Given as goal

abbrev pub invariant-loop-object : goal.invariant-loop-object
invariant-loop-object l = max l.highest (above_all (filter (names_resource l.name) (objects_of (codes "TASK") (drop l.object-index l.objects)))) ≡ ceiling l.name (objects_of (codes "TASK") l.objects)
