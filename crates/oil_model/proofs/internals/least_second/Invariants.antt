use Rattle.std.proofs.Common.{◌≡◌, drop}
use Rattle.std.specs.{Prelude.{codes}, List.{flat_map}}
use Rattle.oil_model.specs.{Lines.{sooner, least}, Objects.{objects_of}, Rules.{second_internals_of, second_internals}}
use Rattle.oil_model.proofs.internals.least_second.Given as goal

abbrev pub invariant-loop-object : goal.invariant-loop-object
invariant-loop-object l = sooner l.best (least (flat_map (second_internals_of l.objects) (objects_of (codes "TASK") (drop l.object-index l.objects)))) ≡ least (second_internals l.objects)
