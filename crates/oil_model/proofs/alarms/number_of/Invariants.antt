use Rattle.std.proofs.Common.{◌≡◌, drop, ◌≤◌}
use Rattle.oil_model.specs.Systems.{number_from, number_in, names_of}
use Rattle.oil_model.proofs.alarms.number_of.Given as goal

abbrev pub invariant-loop-object : goal.invariant-loop-object
invariant-loop-object l = (number_from l.number l.name (names_of l.kind (drop l.object-index l.objects)) ≡ number_in (names_of l.kind l.objects) l.name) × (l.number ≤ l.object-index)
