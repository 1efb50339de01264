use Rattle.std.proofs.Common.{◌≡◌, drop}
use Rattle.oil_model.specs.Objects.{attrs_named, objects_of}
use Rattle.oil_model.proofs.objects.attrs_named.Given as goal

abbrev pub invariant-loop-object : goal.invariant-loop-object
invariant-loop-object l = attrs_named l.name (objects_of l.kind (drop l.object-index l.objects)) ≡ attrs_named l.name (objects_of l.kind l.objects)
