use Rattle.std.proofs.Common.{◌≡◌, drop, max}
use Rattle.std.specs.Prelude.{filter}
use Rattle.oil_model.specs.{declared.objects.Category.TheVariants.{Two}, Objects.{is_isr}, Systems.{names_resource, above_isrs, interrupt_ceiling}}
use Rattle.oil_model.proofs.resources.interrupt_ceiling.Given as goal

abbrev pub invariant-loop-object : goal.invariant-loop-object
invariant-loop-object l = max l.highest (above_isrs (filter (names_resource l.name) (filter (is_isr Two) (drop l.object-index l.objects)))) ≡ interrupt_ceiling l.name (filter (is_isr Two) l.objects)
