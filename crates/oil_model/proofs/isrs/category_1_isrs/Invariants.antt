use Rattle.std.proofs.Common.{◌≡◌, drop, ◌++◌}
use Rattle.std.specs.Prelude.{map, filter}
use Rattle.oil_model.specs.{declared.objects.Category.TheVariants.{One}, Objects.{is_isr, name_of}}
use Rattle.oil_model.proofs.isrs.category_1_isrs.Given as goal

abbrev pub invariant-loop-object : goal.invariant-loop-object
invariant-loop-object l = l.names.items ++ map name_of (filter (is_isr One) (drop l.object-index l.objects)) ≡ map name_of (filter (is_isr One) l.objects)
