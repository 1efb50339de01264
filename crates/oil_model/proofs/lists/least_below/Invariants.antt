use Rattle.std.proofs.Common.{◌≡◌, drop}
use Rattle.std.specs.List.{flat_map}
use Rattle.oil_model.specs.{Lines.{sooner, least}, Lists.{found_below}}
use Rattle.oil_model.proofs.lists.least_below.Given as goal

abbrev pub invariant-loop-attr : goal.invariant-loop-attr
invariant-loop-attr g l = sooner l.best (least (flat_map (found_below (g.R.ListRule.found l.objects) l.scope) (drop l.attr-index l.attrs))) ≡ least (flat_map (found_below (g.R.ListRule.found l.objects) l.scope) l.attrs)
