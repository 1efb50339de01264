use Rattle.std.proofs.Common.{◌≡◌, drop, max}
use Rattle.std.specs.Prelude.{codes}
use Rattle.oil_model.specs.{Objects.{objects_of}, Systems.{above_all, top_ceiling}}
use Rattle.oil_model.proofs.resources.top_ceiling.Given as goal

abbrev pub invariant-loop-object : goal.invariant-loop-object
invariant-loop-object l = max l.highest (above_all (objects_of (codes "TASK") (drop l.object-index l.objects))) ≡ top_ceiling (objects_of (codes "TASK") l.objects)
