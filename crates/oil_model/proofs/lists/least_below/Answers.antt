use Rattle.oil_model.specs.Lists.{found_below}
use Rattle.oil_model.proofs.Leasts.{flat_map_step}
use Rattle.oil_model.proofs.lists.least_below.Goals as goal

pub loop-attr-preserved : goal.loop-attr-preserved
loop-attr-preserved g c =
    rw (c.sooner-best.ensures, c.least_within.ensures) (flat_map_step (found_below (g.R.ListRule.found c.args.objects.now) c.args.scope) c.loop-attr.best _ c.args.attrs.now c.loop-attr.attr-index c.attr-item.result c.loop-attr-test.true c.attr-item.is c.loop-attr.invariant)
