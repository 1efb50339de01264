use Rattle.std.proofs.Common.{◌≡◌, drop}
use Rattle.oil_model.specs.Objects.{os_attrs}
use Rattle.oil_model.proofs.objects.os_attrs.Given as goal

abbrev pub invariant-loop-object : goal.invariant-loop-object
invariant-loop-object l = os_attrs (drop l.object-index l.objects) ≡ os_attrs l.objects
