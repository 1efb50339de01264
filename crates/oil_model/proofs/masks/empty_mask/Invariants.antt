use Rattle.std.proofs.Common.{◌≡◌, drop}
use Rattle.std.specs.Prelude.{codes}
use Rattle.oil_model.specs.{Lines.{sooner, least}, Objects.{objects_of}, Rules.{empty_masks_from, empty_masks}}
use Rattle.oil_model.proofs.masks.empty_mask.Given as goal

abbrev pub invariant-loop-object : goal.invariant-loop-object
invariant-loop-object l = sooner l.best (least (empty_masks_from l.used (objects_of (codes "EVENT") (drop l.object-index l.objects)))) ≡ least (empty_masks l.objects)
