use Rattle.std.proofs.Common.{◌≡◌, drop}
use Rattle.std.specs.{Prelude.{codes}, List.{flat_map}}
use Rattle.oil_model.specs.{Lines.{sooner, least}, Objects.{objects_of}, Rules.{late_times_of}}
use Rattle.oil_model.proofs.times.late_alarm.Given as goal

abbrev pub invariant-loop-object : goal.invariant-loop-object
invariant-loop-object l = sooner l.best (least (flat_map (late_times_of l.objects) (objects_of (codes "ALARM") (drop l.object-index l.objects)))) ≡ least (flat_map (late_times_of l.objects) (objects_of (codes "ALARM") l.objects))
