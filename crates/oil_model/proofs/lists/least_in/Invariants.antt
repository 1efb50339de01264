use Rattle.std.proofs.Common.{◌≡◌, drop}
use Rattle.std.specs.List.{flat_map}
use Rattle.oil_model.specs.{Lines.{sooner, least}, Lists.{found_of}}
use Rattle.oil_model.proofs.lists.least_in.Given as goal

abbrev pub invariant-loop-object : goal.invariant-loop-object
invariant-loop-object g l = sooner l.best (least (flat_map (found_of (g.R.ListRule.found l.objects)) (drop l.object-index l.objects))) ≡ least (flat_map (found_of (g.R.ListRule.found l.objects)) l.objects)
