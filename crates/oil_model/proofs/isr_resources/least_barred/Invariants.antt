use Rattle.std.proofs.Common.{◌≡◌, drop}
use Rattle.std.specs.{Prelude.{filter}, List.{flat_map}}
use Rattle.oil_model.specs.{declared.objects.Category.TheVariants.{Two}, Lines.{sooner, least}, Objects.{is_isr}, Rules.{barred_resources_of}}
use Rattle.oil_model.proofs.isr_resources.least_barred.Given as goal

abbrev pub invariant-loop-object : goal.invariant-loop-object
invariant-loop-object l =
    sooner l.best (least (flat_map (barred_resources_of l.scheduler l.objects) (filter (is_isr Two) (drop l.object-index l.objects))))
    ≡ least (flat_map (barred_resources_of l.scheduler l.objects) (filter (is_isr Two) l.objects))
