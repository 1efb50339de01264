use Rattle.std.proofs.Common.{◌≡◌, drop, ◌++◌}
use Rattle.std.specs.Prelude.{map, filter}
use Rattle.oil_model.specs.{declared.objects.Category.TheVariants.{Two}, Objects.{is_isr}, Systems.{isr}}
use Rattle.oil_model.proofs.isrs.isrs.Given as goal

abbrev pub invariant-loop-object : goal.invariant-loop-object
invariant-loop-object l = l.found.items ++ map isr (filter (is_isr Two) (drop l.object-index l.objects)) ≡ map isr (filter (is_isr Two) l.objects)
