use Rattle.std.proofs.Common.{◌≡◌, drop, ◌++◌}
use Rattle.std.specs.Prelude.{codes}
use Rattle.oil_model.specs.{Objects.{objects_of}, Systems.{events_from, events}}
use Rattle.oil_model.proofs.events.events.Given as goal

abbrev pub invariant-loop-object : goal.invariant-loop-object
invariant-loop-object l = l.found.items ++ events_from l.used (objects_of (codes "EVENT") (drop l.object-index l.objects)) ≡ events l.objects
